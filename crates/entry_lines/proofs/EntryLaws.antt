-- What an entry's line says.
use Rattle.std.proofs.Common.{ℕ, ◌^◌, ◌<◌, List, Option, Some, None, refl, arith}
use Rattle.ima_list.specs.declared.template.Template.{Template}
use Rattle.ima_list.specs.declared.template.Template.TheVariants.{Ima, ImaNg, ImaSig}
use Rattle.ima_list.specs.Names.{FieldData, FileFields, IsEntry, ListEntry, fields_of, kernel_fields_of, template_named}
use Rattle.cells.specs.Values.{IsOneLine}
use Rattle.entry_lines.specs.EntryJson.{content_members, entry_json, signature_members}
use Rattle.entry_lines.proofs.KernelFieldLaws.{fields_plain}
use Rattle.cells.proofs.LineLaws.{ArePlain, one_line}

-- ---- one line

signature_plain : (template : Option Template) (sig : List ℕ) → ArePlain (signature_members template sig) 2
signature_plain (Some Ima) sig = tt
signature_plain (Some ImaNg) sig = tt
signature_plain (Some ImaSig) sig = (tt, tt)
signature_plain None sig = tt

content_plain : (template : Option Template) (fields : Option FileFields) (others : Option (List FieldData)) (payload : List ℕ)
    → ArePlain (content_members template fields others payload) 2
content_plain template (Some fields) others payload = (tt, (tt, (tt, signature_plain template fields.sig)))
content_plain template None (Some others) payload = (tt, (fields_plain others, tt))
content_plain template None None payload = (tt, tt)

pub entry_line : (number : ℕ) (entry : ListEntry) → number < 2 ^ 64 → IsEntry entry → IsOneLine (entry_json number entry)
entry_line number entry fits is =
    one_line (entry_json number entry) (
      (number, fits, refl),
      (
        (entry.register, omega (arith, is.register_exists), refl),
        (
          tt,
          (
            tt,
            (
              tt,
              (
                tt,
                content_plain (template_named entry.name) (fields_of entry) (kernel_fields_of entry) entry.payload,
              ),
            ),
          ),
        ),
      ),
    )

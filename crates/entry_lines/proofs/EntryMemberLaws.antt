-- An entry's value has no member `fault`.
use Rattle.std.proofs.Common.{◌≡◌, ℕ, Bool, true, false, cond, List, Option, Some, None, refl, codes}
use Rattle.std.specs.Str.{bytes_eq, is_utf8}
use Rattle.json.specs.Find.{get}
use Rattle.ima_list.specs.declared.template.Template.{Template}
use Rattle.ima_list.specs.declared.template.Template.TheVariants.{Ima, ImaNg, ImaSig}
use Rattle.ima_list.specs.Names.{FieldData, FileFields, ListEntry, fields_of, kernel_fields_of, template_named}
use Rattle.cells.proofs.FaultMemberLaws.{AreOther, lacks, the_name}
use Rattle.cells.specs.Values.{members_of}
use Rattle.entry_lines.specs.EntryJson.{content_members, entry_json, signature_members}

-- A name that depends on the bytes that are shown.
either : (is : Bool) (name hex_name : List ℕ) → bytes_eq name the_name ≡ false → bytes_eq hex_name the_name ≡ false
    → bytes_eq (cond is name hex_name) the_name ≡ false
either true name hex_name first second = first
either false name hex_name first second = second

signature_other : (template : Option Template) (sig : List ℕ) → AreOther (members_of (signature_members template sig))
signature_other (Some Ima) sig = tt
signature_other (Some ImaNg) sig = tt
signature_other (Some ImaSig) sig = (refl, tt)
signature_other None sig = tt

content_other : (template : Option Template) (fields : Option FileFields) (others : Option (List FieldData)) (payload : List ℕ)
    → AreOther (members_of (content_members template fields others payload))
content_other template (Some fields) others payload =
    (refl, (refl, (either (is_utf8 fields.path) (codes "path") (codes "path_hex") refl refl, signature_other template fields.sig)))
content_other template None (Some others) payload = (refl, (refl, tt))
content_other template None None payload = (refl, tt)

pub entry_lacks : (number : ℕ) (entry : ListEntry) → get the_name (entry_json number entry) ≡ None
entry_lacks number entry =
    let name = either (is_utf8 entry.name) (codes "template") (codes "template_hex") refl refl in
    let content = content_other (template_named entry.name) (fields_of entry) (kernel_fields_of entry) entry.payload in
    lacks (entry_json number entry) refl (refl, (refl, (name, (refl, (refl, (refl, content))))))

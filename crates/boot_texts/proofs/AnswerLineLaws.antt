-- Each line as JSON is one value.
use Rattle.std.proofs.Common.{ℕ, arith, List, [], ◌∷◌, Option, Some, None, codes, refl}
use Rattle.std.specs.Prelude.{flat_map}
use Rattle.hex.specs.Hex.{IsBytes}
use Rattle.pcr_banks.specs.declared.alg.Alg.{Alg}
use Rattle.pcr_banks.specs.declared.sets.PerBank.{PerBank}
use Rattle.pcr_banks.specs.Names.{all_algs, digest_in}
use Rattle.boot_log.specs.Names.{LogEvent}
use Rattle.event_data.specs.Names.{content_in}
use Rattle.event_texts.specs.WideTexts.{wide_text}
use Rattle.measured_data.specs.declared.confirmed.Pcr.{Pcr}
use Rattle.boot_answers.specs.declared.policies.ImaPolicy.TheVariants.{Asked, Possible}
use Rattle.boot_answers.specs.Commands.{CommandSaid, grub, wide}
use Rattle.boot_answers.specs.FirmwareVersion.{version_type}
use Rattle.cells.proofs.LineLaws.{ArePlain, IsPlain, line_within, members_joined}
use Rattle.cells.specs.Cells.{beside, each, hex, if_some, object_at}
use Rattle.cells.specs.Values.{IsCount, IsOneLine, object_of}
use Rattle.event_lines.specs.ContentJson.{content_json}
use Rattle.event_lines.specs.ContentTexts.{text_or_hex}
use Rattle.event_lines.proofs.ContentLaws.{content_plain}
use Rattle.event_lines.proofs.CountLaws.{content_counted}
use Rattle.boot_texts.specs.declared.difference_lines.ComparedBoot.{ComparedBoot}
use Rattle.boot_texts.specs.AnswerCells.{answered_digest, boot_variable_type, command_cell, digest_cell, image_cell, kind_cell, policy_cell, text_member, unknown_command_cell, variable_cell, version_cell, word_cell}
use Rattle.boot_texts.specs.Claims.{claim_cell, claim_said_cell}
use Rattle.boot_texts.specs.Differences.{alike_cell, apart_cell, boot_word, event_cell, place_cell}
use Rattle.boot_texts.specs.declared.claims.Claim.{Claim}
use Rattle.boot_texts.specs.declared.claims.Claim.TheVariants as claims
use Rattle.event_lines.proofs.RegisterNameLaws.{register_plain}
use Rattle.event_lines.specs.RegisterNames.{register_cell}

content_is_plain : (kind : ℕ) (bytes : List ℕ) → IsBytes bytes → IsPlain (content_json kind (content_in kind bytes)) 6
content_is_plain kind bytes fits = content_plain kind (content_in kind bytes) (content_counted kind bytes fits)

pub word_is_one : (name word : List ℕ) → IsOneLine (object_of (word_cell name word).json)
unfolding beside
word_is_one name word = line_within 3 (object_of (word_cell name word).json) (omega arith) (tt, tt)

pub asked_is_one : (number : ℕ) → IsCount number → IsOneLine (object_of (policy_cell (Asked number)).json)
unfolding beside
asked_is_one number count = line_within 3 (object_of (policy_cell (Asked number)).json) (omega arith) (tt, ((number, count, refl), tt))

pub possible_is_one : (number : ℕ) → IsCount number → IsOneLine (object_of (policy_cell (Possible number)).json)
unfolding beside
possible_is_one number count = line_within 3 (object_of (policy_cell (Possible number)).json) (omega arith) (tt, ((number, count, refl), tt))

pub version_is_one : (bytes : List ℕ) → IsBytes bytes → IsOneLine (object_of (version_cell (Some (content_in version_type bytes))).json)
version_is_one bytes fits =
    line_within 7 (object_of (version_cell (Some (content_in version_type bytes))).json) (omega arith) (content_is_plain version_type bytes fits, tt)

-- ---- images

digest_plain : (alg : Alg) (digest : Option (List ℕ)) → ArePlain (if_some digest (digest_cell alg)).json 5
unfolding beside
digest_plain alg None = tt
digest_plain alg (Some bytes) = (tt, tt)

answered_plain : (matched : List Pcr) (digests : PerBank) (algs : List Alg)
    → ArePlain (flat_map (λ alg. (if_some (answered_digest matched digests alg) (digest_cell alg)).json) algs) 5
answered_plain matched digests [] = tt
answered_plain matched digests (alg ∷ algs) =
    members_joined 5 (if_some (answered_digest matched digests alg) (digest_cell alg)).json _
    (digest_plain alg (answered_digest matched digests alg)) (answered_plain matched digests algs)

pub image_is_one : (matched : List Pcr) (number : ℕ) (event : LogEvent) → IsCount number → IsBytes event.payload
    → IsOneLine (object_of (image_cell matched number event).json)
unfolding beside each object_at
image_is_one matched number event count fits =
    line_within 7 (object_of (image_cell matched number event).json) (omega arith)
    ((number, count, refl), (answered_plain matched event.digests all_algs, (content_is_plain event.kind event.payload fits, tt)))

pub variable_is_one : (number : ℕ) (event : LogEvent) → IsCount number → IsBytes event.payload
    → IsOneLine (object_of (variable_cell number event).json)
unfolding beside
variable_is_one number event count fits =
    line_within 7 (object_of (variable_cell number event).json) (omega arith)
    ((number, count, refl), (content_is_plain boot_variable_type event.payload fits, tt))

-- ---- commands

told_plain : (name hex_name bytes : List ℕ) (text : Option (List ℕ)) → IsPlain (text_or_hex name hex_name bytes text).1 2
told_plain name hex_name bytes None = tt
told_plain name hex_name bytes (Some text) = tt

text_is_plain : (text : CommandSaid) → IsPlain (text_member text).1 2
text_is_plain (grub command) = tt
text_is_plain (wide text) = told_plain (codes "text") (codes "text_hex") text (wide_text text)

kind_plain : (text : CommandSaid) → ArePlain (kind_cell text).json 2
unfolding object_at
kind_plain (grub command) = ((tt, tt), tt)
kind_plain (wide text) = tt

pub text_is_one : (text : CommandSaid) → IsOneLine (object_of (text_member text ∷ []))
text_is_one text = line_within 3 (object_of (text_member text ∷ [])) (omega arith) (text_is_plain text, tt)

pub command_is_one : (register number : ℕ) (text : CommandSaid) → IsCount register → IsCount number
    → IsOneLine (object_of (command_cell register number text).json)
unfolding beside
command_is_one register number text place count =
    line_within 3 (object_of (command_cell register number text).json) (omega arith) (
      (number, count, refl),
      members_joined 2 (register_cell (codes " ") register).json _ (register_plain 2 (codes " ") register place)
          (text_is_plain text, kind_plain text),
    )

pub unknown_command_is_one : (register number : ℕ) → IsCount register → IsCount number
    → IsOneLine (object_of (unknown_command_cell register (Some number)).json)
unfolding beside
unknown_command_is_one register number place count =
    line_within 3 (object_of (unknown_command_cell register (Some number)).json) (omega arith)
    (tt, members_joined 2 (register_cell (codes " ") register).json _ (register_plain 2 (codes " ") register place) ((number, count, refl), tt))

pub unanswered_is_one : (register : ℕ) → IsCount register → IsOneLine (object_of (unknown_command_cell register None).json)
unfolding beside
unanswered_is_one register place = line_within 3 (object_of (unknown_command_cell register None).json) (omega arith)
    (tt, members_joined 2 (register_cell (codes " ") register).json _ (register_plain 2 (codes " ") register place) tt)

-- ---- differences

pub alike_is_one : (register : ℕ) (word : List ℕ) → IsCount register → IsOneLine (object_of (alike_cell register word).json)
unfolding beside
alike_is_one register word place = line_within 3 (object_of (alike_cell register word).json) (omega arith)
    (members_joined 2 (register_cell (codes "register ") register).json _ (register_plain 2 (codes "register ") register place) (tt, tt))

pub apart_is_one : (register : ℕ) (alg : Alg) (place : ℕ) → IsCount register → IsCount place
    → IsOneLine (object_of (apart_cell register alg place).json)
unfolding beside
apart_is_one register alg place counted count =
    line_within 3 (object_of (apart_cell register alg place).json) (omega arith) (members_joined 2 (register_cell (codes "register ") register).json _ (register_plain 2 (codes "register ") register counted)
    (tt, ((place, count, refl), tt)))

own_plain : (digest : Option (List ℕ)) → ArePlain (if_some digest (hex (codes " ") (codes "digest"))).json 6
own_plain None = tt
own_plain (Some bytes) = (tt, tt)

place_plain : (boot : ComparedBoot) (register number : ℕ) → IsCount register → IsCount number
    → ArePlain (place_cell register (boot_word boot) number).json 6
unfolding beside
place_plain boot register number place count =
    members_joined 6 (register_cell (codes "register ") register).json _ (register_plain 6 (codes "register ") register place)
    ((number, count, refl), tt)

pub event_is_one : (boot : ComparedBoot) (register : ℕ) (alg : Alg) (number : ℕ) (event : LogEvent) → IsCount register → IsCount number
    → IsBytes event.payload → IsOneLine (object_of (event_cell boot register alg number event).json)
unfolding beside
event_is_one boot register alg number event place count fits =
    line_within 7 (object_of (event_cell boot register alg number event).json) (omega arith)
    (members_joined 6 (place_cell register (boot_word boot) number).json _ (place_plain boot register number place count)
    (members_joined 6 (if_some (digest_in event.digests alg) (hex (codes " ") (codes "digest"))).json _ (own_plain (digest_in event.digests alg))
    (content_is_plain event.kind event.payload fits, tt)))

-- ---- claims

stated_plain : (digests : PerBank) (algs : List Alg) → ArePlain (flat_map (λ alg. (if_some (digest_in digests alg) (digest_cell alg)).json) algs) 5
stated_plain digests [] = tt
stated_plain digests (alg ∷ algs) =
    members_joined 5 (if_some (digest_in digests alg) (digest_cell alg)).json _ (digest_plain alg (digest_in digests alg)) (stated_plain digests algs)

said_plain : (event : LogEvent) (claim : Claim) → IsCount event.register → IsBytes event.payload → ArePlain (claim_said_cell event claim).json 6
unfolding beside each object_at
said_plain event (claims.SecureBoot state) place fits = (tt, tt)
said_plain event claims.Version place fits = (content_is_plain event.kind event.payload fits, tt)
said_plain event claims.Image place fits = (stated_plain event.digests all_algs, (content_is_plain event.kind event.payload fits, tt))
said_plain event claims.Command place fits =
    members_joined 6 (register_cell (codes " ") event.register).json _ (register_plain 6 (codes " ") event.register place)
    (content_is_plain event.kind event.payload fits, tt)
said_plain event claims.Variable place fits = (content_is_plain event.kind event.payload fits, tt)

pub claim_is_one : (number : ℕ) (event : LogEvent) (claim : Claim) → IsCount number → IsCount event.register → IsBytes event.payload
    → IsOneLine (object_of (claim_cell number event claim).json)
unfolding beside object_at
claim_is_one number event claim count place fits =
    line_within 8 (object_of (claim_cell number event claim).json) (omega arith)
    (((number, count, refl), said_plain event claim place fits), tt)

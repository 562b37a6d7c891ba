-- A value whose members have other names has no member `fault`.
use Rattle.std.proofs.Common.{◌≡◌, false, List, [], ◌∷◌, ◌++◌, None, refl, codes, ℕ}
use Rattle.std.specs.Prelude.{⊤}
use Rattle.std.specs.Str.{bytes_eq}
use Rattle.json.specs.Json.{Json, object, Members, no_members, member}
use Rattle.json.specs.Find.{get, get_member}
use Rattle.cells.specs.Values.{Member, members_of}

abbrev pub the_name : List ℕ
the_name = codes "fault"

-- None of the members has the name.
abbrev pub AreOther : Members → Type 0
AreOther no_members = ⊤
AreOther (member name value members) = (bytes_eq name the_name ≡ false) × AreOther members

no_member : (members : Members) → AreOther members → get_member the_name members ≡ None
no_member no_members other = refl
no_member (member name value members) other = rw (no_member members other.1, other.0) refl

pub lacks : {members : Members} (value : Json) → value ≡ object members → AreOther members → get the_name value ≡ None
lacks {members} value is other = rw is (no_member members other)

pub others_joined : (ms ns : List Member) → AreOther (members_of ms) → AreOther (members_of ns) → AreOther (members_of (ms ++ ns))
others_joined [] ns first second = second
others_joined (m ∷ ms) ns first second = (first.0, others_joined ms ns first.1 second)

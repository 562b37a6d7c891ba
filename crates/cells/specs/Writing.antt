-- What was written: members, items, or a value. After a refusal only what stands before all tokens is known.
use Rattle.std.specs.Prelude.{◌≡◌, ◌++◌, List, flat_map, Result, OnOk}
use Rattle.json.specs.Token.{Token}
use Rattle.json.specs.Json.{Json}
use Rattle.json.specs.Tree.{json_tokens}
use Rattle.json.specs.Written.{Written}
use Rattle.cells.specs.Values.{Member, member_tokens}

-- Members, without the end of their object.
abbrev pub members_written : List Member → List Token
members_written members = flat_map member_tokens members

-- Items, without the end of their array.
abbrev pub items_written : List Json → List Token
items_written values = flat_map json_tokens values

pub record WritesMembers {E : Type 0} (result : Result (Unit {0}) E) (old new : Written) (members : List Member) : Type 0 where
  pub before : new.before ≡ old.before
  pub tokens : OnOk result (new.tokens ≡ old.tokens ++ members_written members)

pub record WritesItems {E : Type 0} (result : Result (Unit {0}) E) (old new : Written) (values : List Json) : Type 0 where
  pub before : new.before ≡ old.before
  pub tokens : OnOk result (new.tokens ≡ old.tokens ++ items_written values)

pub record WritesValue {E : Type 0} (result : Result (Unit {0}) E) (old new : Written) (value : Json) : Type 0 where
  pub before : new.before ≡ old.before
  pub tokens : OnOk result (new.tokens ≡ old.tokens ++ json_tokens value)

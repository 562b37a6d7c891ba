-- What holds of the value in an option, or of its absence.
use Rattle.std.specs.Prelude.{Option, None, Some, IfNone, IfSome}
use Rattle.std.specs.Option.{MatchOption}

pub if_found : {A : Type 0} (found : Option A) (P : Type 0) (Q : A → Type 0) → MatchOption found P Q → IfSome found Q
if_found None P Q cases = tt
if_found (Some x) P Q cases = cases

pub if_absent : {A : Type 0} (found : Option A) (P : Type 0) (Q : A → Type 0) → MatchOption found P Q → IfNone found P
if_absent None P Q cases = cases
if_absent (Some x) P Q cases = tt

pub if_none : {A : Type 0} (x : Option A) (P : Type 0) → P → IfNone x P
if_none None P p = p
if_none (Some a) P p = tt

use Rattle.std.proofs.Common.{◌≡◌, [], ◌∷◌, Bool, List, ap, drop, false, get_or, sym, ◌∙◌}
use Rattle.std.proofs.lemmas.List.{nil_from_length}
use Rattle.boot_texts.proofs.difference_lines.first_mark.Goals as goal

pub returns-in-Some-clause-mark : goal.returns-in-Some-clause-mark
returns-in-Some-clause-mark c =
    let are : c.args.marks.now ≡ c.in-Some.mark.now ∷ c.in-Some.rest.now = (rw c.in-Some.is at c.split_first.ensures.cases).0 in
    sym (ap (λ (l : List Bool). get_or l 0 false) are)

pub returns-in-Some-clause-rest : goal.returns-in-Some-clause-rest
returns-in-Some-clause-rest c =
    let are : c.args.marks.now ≡ c.in-Some.mark.now ∷ c.in-Some.rest.now = (rw c.in-Some.is at c.split_first.ensures.cases).0 in
    sym (ap (λ (l : List Bool). drop 1 l) are)

pub returns-in-None-clause-mark : goal.returns-in-None-clause-mark
returns-in-None-clause-mark c =
    let none : c.args.marks.now ≡ [] = nil_from_length c.args.marks.now (rw c.in-None.is at c.split_first.ensures.cases) in
    sym (ap (λ (l : List Bool). get_or l 0 false) none)

pub returns-in-None-clause-rest : goal.returns-in-None-clause-rest
returns-in-None-clause-rest c =
    let none : c.args.marks.now ≡ [] = nil_from_length c.args.marks.now (rw c.in-None.is at c.split_first.ensures.cases) in
    none ∙ sym (ap (λ (l : List Bool). drop 1 l) none)

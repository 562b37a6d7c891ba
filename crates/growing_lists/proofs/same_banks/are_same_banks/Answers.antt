use Rattle.std.proofs.Common.{refl, sym, ◌∙◌}
use Rattle.pcr_banks.proofs.EqualityLaws.{banks_decided}
use Rattle.growing_lists.proofs.same_banks.are_same_banks.Goals as goal

pub returns-clause-same : goal.returns-clause-same
returns-clause-same c = λ equal.
    let one = (banks_decided c.args.first.now c.args.second.now).0 (sym c.eq.ensures ∙ equal) in
    rw one (record { active = λ a. refl; values = λ a r. refl })

pub returns-clause-only : goal.returns-clause-only
returns-clause-only c = λ same.
    c.eq.ensures
    ∙ (banks_decided c.args.first.now c.args.second.now).1 (c.banks_are_what_they_hold.ensures same.active same.values)

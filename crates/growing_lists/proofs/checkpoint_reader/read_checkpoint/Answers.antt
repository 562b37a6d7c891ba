use Rattle.std.proofs.Common.{◌++◌, ◌∙◌, List, ap, codes, sym, subst, ◌≡◌, ℕ}
use Rattle.growing_lists.specs.declared.saved_state.SavedState.{SavedState}
use Rattle.growing_lists.specs.CheckpointData.{IsSameState}
use Rattle.growing_lists.specs.CheckpointTexts.{checkpoint_body, checkpoint_text, state_lines, seal_line}
use Rattle.growing_lists.proofs.CheckpointLaws.{lines_are, ok_then, same_both, text_begins, text_same, this_version, version_is}
use Rattle.growing_lists.proofs.checkpoint_reader.read_checkpoint.Goals as goal

pub returns-in_default-clause-only : goal.returns-in_default-clause-only
returns-in_default-clause-only c =
    λ known possible is.
    absurd (c.in_default.ensures.none (codes "3\n" ++ (state_lines known ++ seal_line (checkpoint_body known))) (is ∙ text_begins known))

pub returns-in_default-clause-version : goal.returns-in_default-clause-version
returns-in_default-clause-version c =
    (λ version. absurd cc, λ other. absurd (c.in_default.ensures.none other.version other.begins))

pub returns-in_default-after_prefix-clause-only : goal.returns-in_default-after_prefix-clause-only
returns-in_default-after_prefix-clause-only c =
    λ known possible is.
    absurd (c.in_default-after_prefix.ensures.none (state_lines known ++ seal_line (checkpoint_body known))
    (version_is known c.args.text.now c.in-Some.version.now c.in-Some.ensures.found is))

pub returns-in_default-state_at-clause-only : goal.returns-in_default-state_at-clause-only
returns-in_default-state_at-clause-only c =
    λ known possible is.
    absurd (c.in_default-state_at.ensures known (seal_line (checkpoint_body known)) possible
    (lines_are known c.args.text.now c.in-Some.version.now c.in-Some-after_prefix.lines.now c.in-Some.ensures.found
    c.in-Some-after_prefix.ensures.found is))

pub returns-clause-only : goal.returns-clause-only
returns-clause-only c =
    λ known possible is.
    let found = c.in-Some-state_at.state in
    let same : IsSameState found known = c.in-Some-state_at.ensures known (seal_line (checkpoint_body known)) possible
    (lines_are known c.args.text.now c.in-Some.version.now c.in-Some-after_prefix.lines.now c.in-Some.ensures.found
    c.in-Some-after_prefix.ensures.found is) in (
      ok_then c.check_text.result c.check_text.ensures.same (λ x e. subst (λ (y : SavedState). IsSameState y known) (sym e) same),
      c.check_text.ensures.only known possible same (is ∙ sym (text_same found known same)),
    )

pub returns-clause-version : goal.returns-clause-version
returns-clause-version c = (
  λ version. absurd (c.check_text.ensures.version version),
  λ other. absurd (this_version c.args.text.now c.in-Some.version.now c.in-Some-after_prefix.lines.now c.in-Some.ensures.found
      c.in-Some-after_prefix.ensures.found other),
)

pub returns-in_default-clause-one : goal.returns-in_default-clause-one
returns-in_default-clause-one c =
    λ first second possible other is also.
    absurd (c.in_default.ensures.none (codes "3\n" ++ (state_lines first ++ seal_line (checkpoint_body first))) (is ∙ text_begins first))

pub returns-in_default-after_prefix-clause-one : goal.returns-in_default-after_prefix-clause-one
returns-in_default-after_prefix-clause-one c =
    λ first second possible other is also.
    absurd (c.in_default-after_prefix.ensures.none (state_lines first ++ seal_line (checkpoint_body first))
    (version_is first c.args.text.now c.in-Some.version.now c.in-Some.ensures.found is))

pub returns-in_default-state_at-clause-one : goal.returns-in_default-state_at-clause-one
returns-in_default-state_at-clause-one c =
    λ first second possible other is also.
    absurd (c.in_default-state_at.ensures first (seal_line (checkpoint_body first)) possible
    (lines_are first c.args.text.now c.in-Some.version.now c.in-Some-after_prefix.lines.now c.in-Some.ensures.found
    c.in-Some-after_prefix.ensures.found is))

pub returns-clause-one : goal.returns-clause-one
returns-clause-one c =
    λ first second possible other is also.
    let lines = λ (known : SavedState) (e : c.args.text.now ≡ checkpoint_text known).
    lines_are known c.args.text.now c.in-Some.version.now c.in-Some-after_prefix.lines.now c.in-Some.ensures.found
    c.in-Some-after_prefix.ensures.found e in
    same_both c.in-Some-state_at.state first second
    (c.in-Some-state_at.ensures first (seal_line (checkpoint_body first)) possible (lines first is))
    (c.in-Some-state_at.ensures second (seal_line (checkpoint_body second)) other (lines second also))

pub returns-clause-memory : goal.returns-clause-memory
returns-clause-memory c =
    λ memory. record {
      rest = c.in-Some-after_prefix.lines.now;
      begins = c.in-Some.ensures.found ∙ ap (λ (version : List ℕ). codes "ima-agent checkpoint " ++ version) c.in-Some-after_prefix.ensures.found;
    }

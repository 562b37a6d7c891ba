use Rattle.std.proofs.Common.{◌≡◌, ◌<◌, ℕ, Bool, length, map, take, arith, sym, ap, ◌∙◌}
use Rattle.std.proofs.Math.Seq.{take-length}
use Rattle.std.proofs.lemmas.List.Filters.{length-filter_more}
use Rattle.pcr_banks.specs.declared.alg.Alg.{Alg}
use Rattle.pcr_banks.specs.declared.alg.Alg.TheVariants.{Sha1}
use Rattle.pcr_values.specs.Names.{every_register}
use Rattle.pcr_values.proofs.RegisterLaws.{every_count}
use Rattle.tpm_quotes.specs.Spelling.{selects}
use Rattle.attestations.specs.Quoted.{bank_selection_of}
use Rattle.rendering.proofs.summary.count_selected.Goals.{else-selects, then-selects}
use Rattle.rendering.proofs.summary.count_selected.Goals as goal

pub loop-number-preserved : goal.loop-number-preserved
loop-number-preserved c =
    let p : Alg × ℕ → Bool = λ register. selects (map bank_selection_of c.args.selections.now) register.0 register.1 in
    let has = c.loop-number.invariant in
    let inside : c.loop-number.number < length every_register = omega (arith, every_count) in
    let more = length-filter_more p every_register c.loop-number.number (Sha1, 0) inside in
    elim c.if-selects.branch [
      | then-selects w ↦
          let one = rw (c.register_numbered-alg.ensures, sym c.selects.ensures ∙ w.if-selects.true) at more in
          (omega (arith, w.count-is, has.0, one), omega (arith, w.count-is, has.1))
      | else-selects w ↦
          let none = rw (c.register_numbered-alg.ensures, sym c.selects.ensures ∙ w.if-selects.false) at more in
          (omega (arith, w.count-is, has.0, none), omega (arith, w.count-is, has.1))
    ]

pub returns : goal.returns
returns c =
    let end : c.loop-number.number ≡ length every_register = omega (arith, every_count) in
    let all : take c.loop-number.number every_register ≡ every_register =
    ap (λ (n : ℕ). take n every_register) end ∙ take-length every_register in
    rw all at c.loop-number.invariant.0

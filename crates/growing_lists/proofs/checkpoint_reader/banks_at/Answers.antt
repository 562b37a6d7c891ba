use Rattle.std.proofs.Common.{refl, ◌∙◌, ◌++◌}
use Rattle.pcr_banks.specs.declared.alg.Alg.TheVariants.{Sha1, Sha256, Sha384, Sha512}
use Rattle.growing_lists.specs.CheckpointTexts.{bank_lines}
use Rattle.growing_lists.proofs.CheckpointLaws.{all_banks, lines_apart, some_then, start_has, still_has}
use Rattle.growing_lists.proofs.checkpoint_reader.banks_at.Goals as goal

pub returns-in_err-banks : goal.returns-in_err-banks
returns-in_err-banks c =
    λ known rest have is.
    absurd (c.in_err-banks.ensures known (bank_lines known Sha256 ++ (bank_lines known Sha384 ++ (bank_lines known Sha512 ++ rest))) have
    (start_has c.list_start.result c.list_start.ensures Sha1) (is ∙ lines_apart known rest))

pub returns-in_err-banks-2 : goal.returns-in_err-banks-2
returns-in_err-banks-2 c =
    λ known rest have is.
    let start = start_has c.list_start.result c.list_start.ensures in
    let first = c.in_ok-banks.ensures known (bank_lines known Sha256 ++ (bank_lines known Sha384 ++ (bank_lines known Sha512 ++ rest))) have
    (start Sha1) (is ∙ lines_apart known rest) in
    absurd (c.in_err-banks-2.ensures known (bank_lines known Sha384 ++ (bank_lines known Sha512 ++ rest)) have
    (still_has known c.list_start.result c.in_ok-banks.banks Sha1 Sha256 first.0 refl (start Sha256)) first.1)

pub returns-in_err-banks-3 : goal.returns-in_err-banks-3
returns-in_err-banks-3 c =
    λ known rest have is.
    let zero = c.list_start.result in
    let one = c.in_ok-banks.banks in
    let start = start_has zero c.list_start.ensures in
    let first = c.in_ok-banks.ensures known (bank_lines known Sha256 ++ (bank_lines known Sha384 ++ (bank_lines known Sha512 ++ rest))) have
    (start Sha1) (is ∙ lines_apart known rest) in
    let second = c.in_ok-banks-2.ensures known (bank_lines known Sha384 ++ (bank_lines known Sha512 ++ rest)) have
    (still_has known zero one Sha1 Sha256 first.0 refl (start Sha256)) first.1 in
    absurd (c.in_err-banks-3.ensures known (bank_lines known Sha512 ++ rest) have
    (still_has known one c.in_ok-banks-2.banks Sha256 Sha384 second.0 refl (still_has known zero one Sha1 Sha384 first.0 refl (start Sha384)))
    second.1)

pub returns : goal.returns
returns c =
    λ known rest have is.
    let zero = c.list_start.result in
    let one = c.in_ok-banks.banks in
    let two = c.in_ok-banks-2.banks in
    let three = c.in_ok-banks-3.banks in
    let start = start_has zero c.list_start.ensures in
    let first = c.in_ok-banks.ensures known (bank_lines known Sha256 ++ (bank_lines known Sha384 ++ (bank_lines known Sha512 ++ rest))) have
    (start Sha1) (is ∙ lines_apart known rest) in
    let second = c.in_ok-banks-2.ensures known (bank_lines known Sha384 ++ (bank_lines known Sha512 ++ rest)) have
    (still_has known zero one Sha1 Sha256 first.0 refl (start Sha256)) first.1 in
    let third = c.in_ok-banks-3.ensures known (bank_lines known Sha512 ++ rest) have
    (still_has known one two Sha256 Sha384 second.0 refl (still_has known zero one Sha1 Sha384 first.0 refl (start Sha384))) second.1 in
    let last = still_has known two three Sha384 Sha512 third.0 refl
    (still_has known one two Sha256 Sha512 second.0 refl (still_has known zero one Sha1 Sha512 first.0 refl (start Sha512))) in
    some_then c.bank_at-4.result (c.bank_at-4.ensures known rest have last third.1)
    (λ x fourth. (all_banks known zero one two three x.0 first.0 second.0 third.0 fourth.0, fourth.1))

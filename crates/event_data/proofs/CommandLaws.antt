-- Commands: what is read is what was spelled, and what is spelled is read.
use Rattle.std.proofs.Common.{◌≡◌, ℕ, Bool, true, false, cond, List, [], ◌∷◌, ◌++◌, codes, Option, Some, option_map, refl, sym, ap, ◌∙◌, inr, ⊎_elim, append_assoc, arith}
use Rattle.std.specs.Option.{option_or}
use Rattle.std.proofs.lemmas.List.{append_cancel_left, append_cancel_right}
use Rattle.event_data.specs.declared.command.CommandKind.{CommandKind}
use Rattle.event_data.specs.declared.command.CommandKind.TheVariants.{Grub, Kernel, Module, RedHatGrub, RedHatKernel}
use Rattle.event_data.specs.Names.{CommandData, IsCommand, after_in, any_command, command_as, command_in, command_prefix, hashed_text, hashes_nul, red_hat_command}
use Rattle.event_data.proofs.AffixLaws.{before_finds, after_finds}
use Rattle.event_data.proofs.Finding.{Finds, alike_finds, then_finds, mapped_is, or_some, or_only}

-- ---- bytes are one command at most

head_is : (x y : ℕ) (xs ys : List ℕ) → x ∷ xs ≡ y ∷ ys → x ≡ y
head_is x y xs ys e = cc

apart : (x y : ℕ) (xs ys : List ℕ) → (x ≡ y → ⊥) → x ∷ xs ≡ y ∷ ys → ⊥
apart x y xs ys other e = other (head_is x y xs ys e)

apart_behind : (front : List ℕ) (x y : ℕ) (xs ys : List ℕ) → (x ≡ y → ⊥) → front ++ x ∷ xs ≡ front ++ y ∷ ys → ⊥
apart_behind front x y xs ys other e = apart x y xs ys other (append_cancel_left front (x ∷ xs) (y ∷ ys) e)

same_line : (kind other : CommandKind) (text others : List ℕ) → command_prefix kind ++ text ≡ command_prefix other ++ others
    → (kind ≡ other) × (text ≡ others)
same_line Grub Grub text others e = (refl, append_cancel_left (command_prefix Grub) text others e)
same_line Kernel Kernel text others e = (refl, append_cancel_left (command_prefix Kernel) text others e)
same_line Module Module text others e = (refl, append_cancel_left (command_prefix Module) text others e)
same_line RedHatGrub RedHatGrub text others e = (refl, append_cancel_left (command_prefix RedHatGrub) text others e)
same_line RedHatKernel RedHatKernel text others e = (refl, append_cancel_left (command_prefix RedHatKernel) text others e)
same_line Grub Kernel text others e = absurd (apart 103 107 _ _ (λ n. omega (arith, n)) e)
same_line Grub Module text others e = absurd (apart 103 109 _ _ (λ n. omega (arith, n)) e)
same_line Grub RedHatGrub text others e =
    absurd (apart_behind (codes "grub_cmd") 58 32 _ _ (λ n. omega (arith, n)) e)
same_line Grub RedHatKernel text others e =
    absurd (apart_behind (codes "grub_") 99 107 _ _ (λ n. omega (arith, n)) e)
same_line Kernel Grub text others e = absurd (apart 107 103 _ _ (λ n. omega (arith, n)) e)
same_line Kernel Module text others e = absurd (apart 107 109 _ _ (λ n. omega (arith, n)) e)
same_line Kernel RedHatGrub text others e = absurd (apart 107 103 _ _ (λ n. omega (arith, n)) e)
same_line Kernel RedHatKernel text others e = absurd (apart 107 103 _ _ (λ n. omega (arith, n)) e)
same_line Module Grub text others e = absurd (apart 109 103 _ _ (λ n. omega (arith, n)) e)
same_line Module Kernel text others e = absurd (apart 109 107 _ _ (λ n. omega (arith, n)) e)
same_line Module RedHatGrub text others e = absurd (apart 109 103 _ _ (λ n. omega (arith, n)) e)
same_line Module RedHatKernel text others e = absurd (apart 109 103 _ _ (λ n. omega (arith, n)) e)
same_line RedHatGrub Grub text others e =
    absurd (apart_behind (codes "grub_cmd") 32 58 _ _ (λ n. omega (arith, n)) e)
same_line RedHatGrub Kernel text others e = absurd (apart 103 107 _ _ (λ n. omega (arith, n)) e)
same_line RedHatGrub Module text others e = absurd (apart 103 109 _ _ (λ n. omega (arith, n)) e)
same_line RedHatGrub RedHatKernel text others e =
    absurd (apart_behind (codes "grub_") 99 107 _ _ (λ n. omega (arith, n)) e)
same_line RedHatKernel Grub text others e =
    absurd (apart_behind (codes "grub_") 107 99 _ _ (λ n. omega (arith, n)) e)
same_line RedHatKernel Kernel text others e = absurd (apart 103 107 _ _ (λ n. omega (arith, n)) e)
same_line RedHatKernel Module text others e = absurd (apart 103 109 _ _ (λ n. omega (arith, n)) e)
same_line RedHatKernel RedHatGrub text others e =
    absurd (apart_behind (codes "grub_") 107 99 _ _ (λ n. omega (arith, n)) e)

-- The line is this command.
abbrev IsLine : List ℕ → CommandData → Type 0
IsLine line command = line ≡ command_prefix command.kind ++ command.text

one_line : (line : List ℕ) (v w : CommandData) → IsLine line v → IsLine line w → v ≡ w
one_line line v w is is_too =
    let same = same_line v.kind w.kind v.text w.text (sym is ∙ is_too) in
    ap (λ (k : CommandKind). record { kind = k; text = v.text }) same.0 ∙ ap (λ (t : List ℕ). record { kind = w.kind; text = t }) same.1

pub one_command : (bytes : List ℕ) (v w : CommandData) → IsCommand bytes v → IsCommand bytes w → v ≡ w
one_command bytes v w is is_too =
    let line = append_cancel_right (command_prefix v.kind ++ v.text) (command_prefix w.kind ++ w.text) (0 ∷ []) (sym is.spelled ∙ is_too.spelled) in
    one_line (command_prefix v.kind ++ v.text) v w refl line

-- ---- a line as a command

as_is : (kind : CommandKind) (line : List ℕ) (v : CommandData) → command_as kind line ≡ Some v → IsLine line v
as_is kind line v e =
    mapped_is (λ (text : List ℕ). record { kind = kind; text = text }) (IsLine line) (λ text is. is)
    (after_in (command_prefix kind) line) (after_finds (command_prefix kind) line) v e

as_only : (kind : CommandKind) (line text : List ℕ) → line ≡ command_prefix kind ++ text
    → command_as kind line ≡ Some (record { kind = kind; text = text })
as_only kind line text e =
    ap (option_map (λ (t : List ℕ). record { kind = kind; text = t })) ((after_finds (command_prefix kind) line).only text e)

either_is : (line : List ℕ) (a b : Option CommandData) → ((v : CommandData) → a ≡ Some v → IsLine line v)
    → ((v : CommandData) → b ≡ Some v → IsLine line v) → (v : CommandData) → option_or a b ≡ Some v → IsLine line v
either_is line a b first second v e = ⊎_elim (first v) (λ l. second v l.1) (or_some a b v e)

-- Kinds that come later, where each before is another.
later_only : (line : List ℕ) (a b : Option CommandData) (v : CommandData) → ((w : CommandData) → a ≡ Some w → IsLine line w) → IsLine line v
    → b ≡ Some v → option_or a b ≡ Some v
later_only line a b v first is e = or_only a b v (λ w f. one_line line w v (first w f) is) (inr e)

abbrev from_module : List ℕ → Option CommandData
from_module line = option_or (command_as Module line) (red_hat_command line)

abbrev from_kernel : List ℕ → Option CommandData
from_kernel line = option_or (command_as Kernel line) (from_module line)

line_is : (line : List ℕ) (v : CommandData) → any_command line ≡ Some v → IsLine line v
line_is line =
    either_is line (command_as Grub line) (from_kernel line) (as_is Grub line)
    (either_is line (command_as Kernel line) (from_module line) (as_is Kernel line)
    (either_is line (command_as Module line) (red_hat_command line) (as_is Module line)
    (either_is line (command_as RedHatGrub line) (command_as RedHatKernel line) (as_is RedHatGrub line) (as_is RedHatKernel line))))

behind_grub : (line : List ℕ) (v : CommandData) → IsLine line v → from_kernel line ≡ Some v → any_command line ≡ Some v
behind_grub line v is e = later_only line (command_as Grub line) (from_kernel line) v (as_is Grub line) is e

behind_kernel : (line : List ℕ) (v : CommandData) → IsLine line v → from_module line ≡ Some v → any_command line ≡ Some v
behind_kernel line v is e =
    behind_grub line v is (later_only line (command_as Kernel line) (from_module line) v (as_is Kernel line) is e)

behind_module : (line : List ℕ) (v : CommandData) → IsLine line v → red_hat_command line ≡ Some v → any_command line ≡ Some v
behind_module line v is e =
    behind_kernel line v is (later_only line (command_as Module line) (red_hat_command line) v (as_is Module line) is e)

line_only : (line text : List ℕ) (kind : CommandKind) → line ≡ command_prefix kind ++ text
    → any_command line ≡ Some (record { kind = kind; text = text })
line_only line text Grub e = rw (as_only Grub line text e) refl
line_only line text Kernel e = behind_grub line (record { kind = Kernel; text = text }) e (rw (as_only Kernel line text e) refl)
line_only line text Module e = behind_kernel line (record { kind = Module; text = text }) e (rw (as_only Module line text e) refl)
line_only line text RedHatGrub e =
    behind_module line (record { kind = RedHatGrub; text = text }) e (rw (as_only RedHatGrub line text e) refl)
line_only line text RedHatKernel e =
    let v : CommandData = record { kind = RedHatKernel; text = text } in
    behind_module line v e
    (later_only line (command_as RedHatGrub line) (command_as RedHatKernel line) v (as_is RedHatGrub line) e (as_only RedHatKernel line text e))

line_finds : (line : List ℕ) → Finds (IsLine line) (any_command line)
line_finds line = record { is = line_is line; only = λ v is. line_only line v.text v.kind is }

pub command_finds : (bytes : List ℕ) → Finds (IsCommand bytes) (command_in bytes)
command_finds bytes =
    alike_finds
    (λ v is. record { spelled = is.1 ∙ ap (λ (l : List ℕ). l ++ 0 ∷ []) is.2 })
    (λ v is. (command_prefix v.kind ++ v.text, is.spelled, refl))
    (then_finds (before_finds (0 ∷ []) bytes) line_finds)

-- ---- what is hashed

hashed_kind : (kind : CommandKind) → hashes_nul kind ≡ true → kind ≡ RedHatGrub
hashed_kind Grub e = absurd cc
hashed_kind Kernel e = absurd cc
hashed_kind Module e = absurd cc
hashed_kind RedHatGrub e = refl
hashed_kind RedHatKernel e = absurd cc

with_nul : (v : CommandData) → hashes_nul v.kind ≡ true → hashed_text v ≡ v.text ++ 0 ∷ []
with_nul v e = ap (λ (b : Bool). cond b (v.text ++ 0 ∷ []) v.text) e

pub without_nul : (v : CommandData) → hashes_nul v.kind ≡ false → hashed_text v ≡ v.text
without_nul v e = ap (λ (b : Bool). cond b (v.text ++ 0 ∷ []) v.text) e

-- Behind its prefix is all that is hashed.
pub hashed_behind : (bytes : List ℕ) (v : CommandData) → hashes_nul v.kind ≡ true → IsCommand bytes v
    → after_in (command_prefix RedHatGrub) bytes ≡ Some (hashed_text v)
hashed_behind bytes v e is =
    (after_finds (command_prefix RedHatGrub) bytes).only (hashed_text v)
    (is.spelled ∙ ap (λ (kind : CommandKind). (command_prefix kind ++ v.text) ++ 0 ∷ []) (hashed_kind v.kind e)
    ∙ append_assoc (command_prefix RedHatGrub) v.text (0 ∷ [])
    ∙ ap (λ (t : List ℕ). command_prefix RedHatGrub ++ t) (sym (with_nul v e)))

-- Texts that are appended one after another.
use Rattle.std.proofs.Common.{◌≡◌, ℕ, List, ◌++◌, ap, ◌∙◌, append_assoc}

pub one_more : (old first second : List ℕ) {mid new : List ℕ} → mid ≡ old ++ first → new ≡ mid ++ second → new ≡ old ++ (first ++ second)
one_more old first second before after =
    after ∙ ap (λ (t : List ℕ). t ++ second) before ∙ append_assoc old first second

pub all_lines : (old a b c d e f g : List ℕ) {one two three four five six seven : List ℕ} → one ≡ old ++ a → two ≡ one ++ b
    → three ≡ two ++ c → four ≡ three ++ d → five ≡ four ++ e → six ≡ five ++ f → seven ≡ six ++ g
    → seven ≡ old ++ (a ++ (b ++ (c ++ (d ++ (e ++ (f ++ g))))))
all_lines old a b c d e f g {one} {two} {three} {four} {five} first second third fourth fifth sixth last =
    one_more old a (b ++ (c ++ (d ++ (e ++ (f ++ g))))) first
    (one_more one b (c ++ (d ++ (e ++ (f ++ g)))) second
    (one_more two c (d ++ (e ++ (f ++ g))) third
    (one_more three d (e ++ (f ++ g)) fourth
    (one_more four e (f ++ g) fifth
    (one_more five f g sixth last)))))

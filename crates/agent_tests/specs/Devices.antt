-- Files in memory, of which one is to fail.
use Rattle.std.specs.Prelude.{ℕ, List, Option, None, cond, option_map, bytes_eq}
use Rattle.std.specs.Borrow.{Bor}
use Rattle.std.specs.List.{find}

-- All bytes of the file of this name. `None` if it is the one that is to fail, or no file has this name.
abbrev pub held : List (Bor (List ℕ) × Bor (List ℕ)) → List ℕ → List ℕ → Option (List ℕ)
held files failing name =
    cond (bytes_eq name failing) None (option_map (λ file. file.1.now) (find (λ file. bytes_eq file.0.now name) files))

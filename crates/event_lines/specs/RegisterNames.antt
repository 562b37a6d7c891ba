-- What systemd calls the registers (systemd-analyze(1), 'pcrs'), and registers as cells.
use Rattle.std.specs.Prelude.{ℕ, ◌==◌, List, [], ◌∷◌, codes, find, Option, Some, None, option_map}
use Rattle.cells.specs.Cells.{Cell, in_order, nothing, number, text, word}
use Rattle.cells.specs.Values.{Member}

abbrev pub register_names : List (ℕ × List ℕ)
register_names =
    (0, codes "platform-code")
    ∷ (1, codes "platform-config")
    ∷ (2, codes "external-code")
    ∷ (3, codes "external-config")
    ∷ (4, codes "boot-loader-code")
    ∷ (5, codes "boot-loader-config")
    ∷ (6, codes "host-platform")
    ∷ (7, codes "secure-boot-policy")
    ∷ (9, codes "kernel-initrd")
    ∷ (10, codes "ima")
    ∷ (11, codes "kernel-boot")
    ∷ (12, codes "kernel-config")
    ∷ (13, codes "sysexts")
    ∷ (14, codes "shim-policy")
    ∷ (15, codes "system-identity")
    ∷ (16, codes "debug")
    ∷ (23, codes "application-support")
    ∷ []

-- The name of a register; none for one that is not among them, such as 8.
abbrev pub register_name : ℕ → Option (List ℕ)
register_name register = option_map (λ named. named.1) (find (λ named. named.0 == register) register_names)

-- A name, if there is one; in text in brackets.
abbrev pub register_name_cell : Option (List ℕ) → Cell Member
register_name_cell None = nothing
register_name_cell (Some name) = in_order (text (codes " (") ∷ word [] (codes "register_name") name ∷ text (codes ")") ∷ [])

-- A register, in text after these words: its number, and its name if it has one.
abbrev pub register_cell : List ℕ → ℕ → Cell Member
register_cell before register = in_order (number before (codes "register") register ∷ register_name_cell (register_name register) ∷ [])

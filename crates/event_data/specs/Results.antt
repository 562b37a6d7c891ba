-- What each reader gives for bytes: functions, where the forms are relations.
use Rattle.std.specs.Prelude.{ℕ, ◌-◌, ◌%◌, ◌==◌, ◌&&◌, if◌then◌else◌, List, [], ◌∷◌, ◌++◌, length, take, drop, codes, bytes_eq, Option, Some, None, unwrap_or, option_map, option_and_then}
use Rattle.std.specs.Option.{option_or}
use Rattle.std.specs.Str.{is_utf8}
use Rattle.event_data.specs.declared.command.CommandKind.{CommandKind}
use Rattle.event_data.specs.declared.command.CommandKind.TheVariants.{Grub, Kernel, Module, RedHatGrub, RedHatKernel}
use Rattle.event_data.specs.Forms.{CommandData, command_prefix, has_no_nul}
use Rattle.event_data.specs.Blobs.{reserved}

-- What follows this prefix, where the bytes begin with it.
abbrev pub after_in : List ℕ → List ℕ → Option (List ℕ)
after_in prefix bytes =
    let rest = drop (length prefix) bytes in
    if bytes_eq (prefix ++ rest) bytes then Some rest else None

-- What precedes this suffix, where the bytes end with it.
abbrev pub before_in : List ℕ → List ℕ → Option (List ℕ)
before_in suffix bytes =
    let prefix = take (length bytes - length suffix) bytes in
    if bytes_eq (prefix ++ suffix) bytes then Some prefix else None

-- A text, without the NUL that may stand at its end.
abbrev pub text_in : List ℕ → Option (List ℕ)
text_in bytes =
    let text = unwrap_or (before_in (0 ∷ []) bytes) bytes in
    if has_no_nul text && is_utf8 text then Some text else None

-- A text in units of two bytes, without the NUL at its end.
abbrev pub even_only : List ℕ → Option (List ℕ)
even_only text = if length text % 2 == 0 then Some text else None

abbrev pub wide_text_in : List ℕ → Option (List ℕ)
wide_text_in bytes = option_and_then even_only (before_in (0 ∷ 0 ∷ []) bytes)

-- A command of this kind, and one of any kind.
abbrev pub command_as : CommandKind → List ℕ → Option CommandData
command_as kind line = option_map (λ text. record { kind = kind; text = text }) (after_in (command_prefix kind) line)

abbrev pub red_hat_command : List ℕ → Option CommandData
red_hat_command line = option_or (command_as RedHatGrub line) (command_as RedHatKernel line)

abbrev pub any_command : List ℕ → Option CommandData
any_command line =
    option_or (command_as Grub line) (option_or (command_as Kernel line) (option_or (command_as Module line) (red_hat_command line)))

abbrev pub command_in : List ℕ → Option CommandData
command_in bytes = option_and_then any_command (before_in (0 ∷ []) bytes)

-- A GUID.
abbrev pub guid_in : List ℕ → Option (List ℕ)
guid_in bytes = if length bytes == 16 then Some bytes else None

-- A locality, and how a host of Google keeps its guests apart.
abbrev pub one_byte : List ℕ → Option ℕ
one_byte (byte ∷ []) = Some byte
one_byte bytes = None

abbrev pub locality_in : List ℕ → Option ℕ
locality_in bytes = option_and_then one_byte (after_in (codes "StartupLocality" ++ 0 ∷ []) bytes)

abbrev pub technology_in : List ℕ → Option ℕ
technology_in bytes =
    option_and_then (λ rest. option_and_then one_byte (before_in reserved rest)) (after_in (codes "GCE NonHostInfo" ++ 0 ∷ []) bytes)

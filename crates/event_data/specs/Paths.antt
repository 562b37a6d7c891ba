-- What contracts see of a device path whose nodes are lent.
use Rattle.std.specs.Prelude.{ℕ, List}
use Rattle.event_data.specs.declared.path.DevicePath.{DevicePath}

-- The bytes that were not lent yet.
abbrev pub left_of : DevicePath → List ℕ
left_of path = path.rest.now

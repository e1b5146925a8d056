-- The engine's version, three numbers with points between them, and the one number that C gets of it. That the header has the same one is tested.
use Rattle.std.specs.Prelude.{ℕ, ◌+◌, ◌*◌}

-- a version in one number: a million times the first of its three, a thousand times the second, and the third
abbrev pub version_number : ℕ → ℕ → ℕ → ℕ
version_number major minor patch = 1000000 * major + 1000 * minor + patch

-- that of this engine
abbrev pub engine_version : ℕ
engine_version = version_number 0 42 0

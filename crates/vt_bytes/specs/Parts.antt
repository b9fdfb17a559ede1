-- Parts of bytes.
use Rattle.std.specs.Prelude.{ℕ, ◌+◌, List, ◌++◌, length, take, drop}

-- so many bytes from a place on
abbrev pub part : List ℕ → ℕ → ℕ → List ℕ
part bytes at count = take count (drop at bytes)

-- bytes with others in place of as many from a place on
abbrev pub put_at : List ℕ → ℕ → List ℕ → List ℕ
put_at bytes at piece = take at bytes ++ piece ++ drop (at + length piece) bytes

-- Bytes that are put into a buffer. Assumes nothing.
use Rattle.std.specs.Prelude.{ℕ, List, ◌++◌, take, drop}
use Rattle.rules.specs.File.{fill}

-- a buffer with some bytes from place `at` on: those before it and those behind keep their contents
unfoldable pub put_at : List ℕ → ℕ → List ℕ → List ℕ
put_at bytes at old = take at old ++ fill bytes (drop at old)

-- Bytes that are put together before they are written.
--
--   written t     the bytes that the text t has so far
--   HasRoom t n   n more bytes can be put behind them
use Rattle.std.specs.Prelude.{ℕ, ◌+◌, ◌≤◌, List, length}
use Rattle.fixed.specs.FixedVec.{elements}
use Rattle.files.specs.declared.text.Text.{Text}

abbrev pub written : Text → List ℕ
written t = elements t.bytes

abbrev pub HasRoom : Text → ℕ → Type 0
HasRoom t n = length (written t) + n ≤ 4096

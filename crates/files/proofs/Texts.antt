-- How long a number and a word are in a text. Assumes nothing.
use Rattle.std.proofs.Common.{ℕ, ◌^◌, ◌<◌, ◌≤◌, length, decimal, arith, lit≤}
use Rattle.std.proofs.lemmas.Fmt.{length-decimal-le}
use Rattle.tasks.specs.Faults.{layer_word}
use Rattle.tasks.specs.declared.fault.Layer.{Layer}
use Rattle.tasks.specs.declared.fault.Layer.TheVariants.{Bytes, Task, Plan, Run}

pub decimal_short : (n : ℕ) → n < 2 ^ 64 → length (decimal n) ≤ 20
decimal_short n h = length-decimal-le 20 n (lit≤ tt) (omega arith) h

pub word_short : (l : Layer) → length (layer_word l) ≤ 5
word_short Bytes = lit≤ tt
word_short Task = lit≤ tt
word_short Plan = lit≤ tt
word_short Run = lit≤ tt

-- The premises of a question against what is tested of its words, and the same premises below fewer tasks. Assumes nothing.
use Rattle.std.proofs.Common.{◌≡◌, ℕ, ◌-◌, ◌^◌, ◌<◌, ◌≤◌, length, arith}
use Rattle.std.proofs.lemmas.Nat.{pow_pos}
use Rattle.tasks.specs.List.{listed}
use Rattle.tasks.specs.Set.{bit, first_set}
use Rattle.tasks.specs.declared.list.TaskList.{TaskList}
use Rattle.tasks.proofs.Reading.{listed_few}
use Rattle.tasks.proofs.SetLaws.{bits_below, below_bits, first_is}
use Rattle.analysis.specs.Question.{Premises}

module _ (l : TaskList) (S i : ℕ) where
  first_listed : first_set (length (listed l)) ≡ 2 ^ length (listed l) - 1
  first_listed = first_is (length (listed l)) (listed_few l)

  pub premised : i < length (listed l) → S ≤ first_set (length (listed l)) → bit S i ≡ 0 → Premises l S i
  premised in_list in_set apart =
      let n = length (listed l) in
      record {
        listed_task = in_list;
        listed_set = λ k e. bits_below S k n (omega (arith, first_listed, pow_pos n)) e;
        apart = apart;
      }

  pub premises_word : S < 2 ^ 32 → Premises l S i → S ≤ first_set (length (listed l))
  premises_word word p = omega (arith, first_listed, below_bits 32 S (length (listed l)) word p.listed_set)

-- Queues, by the elements that they hold and the memory that they lie in.
--
--   memory q                every place of the lent memory
--   held q                  the elements of the queue q, first to last
--   Made q xs n             the queue q lies over the memory xs and holds its first n elements
--   Puts cmp x old new a    putting x in answers a and turns the queue `old` into `new`
--   Takes es old new        the queue `old` becomes `new`, which holds es; every place past them is as it was
use Rattle.std.specs.Prelude.{◌≡◌, ℕ, ◌<◌, ◌≤◌, min, List, length, take, Result, MatchResult}
use Rattle.std.specs.declared.cmp.Ordering.{Ordering}
use Rattle.queue.specs.Sequences.{insertion, laid}
use Rattle.queue.specs.declared.fault.QueueFault.{QueueFault}
use Rattle.queue.specs.declared.fault.QueueFault.TheVariants.{Full}
use Rattle.queue.specs.declared.queue.Queue.{Queue}

abbrev pub memory : {T : Type 0} → Queue T → List T
memory q = q.places.now

abbrev pub held : {T : Type 0} → Queue T → List T
held q = take q.count q.places.now

pub record Made {T : Type 0} (q : Queue T) (xs : List T) (n : ℕ) : Type 0 where
  pub over : memory q ≡ xs
  pub count : q.count ≡ min n (length xs)

pub record Takes {T : Type 0} (es : List T) (old new : Queue T) : Type 0 where
  pub memory_after : memory new ≡ laid es (memory old)
  pub count : new.count ≡ length es
  pub lender : new.places.ghost_name ≡ old.places.ghost_name

pub record Stays {T : Type 0} (old new : Queue T) : Type 0 where
  pub memory_same : memory new ≡ memory old
  pub count : new.count ≡ old.count
  pub lender : new.places.ghost_name ≡ old.places.ghost_name

abbrev pub Puts : {T : Type 0} → (T → T → Ordering) → T → Queue T → Queue T → Result (Unit {0}) QueueFault → Type 0
Puts cmp x old new answer =
    MatchResult answer
    (λ _. (length (held old) < length (memory old)) × Takes (insertion cmp x (held old)) old new)
    (λ f. (f ≡ Full (length (memory old))) × (length (memory old) ≤ length (held old)) × Stays old new)

-- What the fault of a queue tells.
--
--   queue_refusal f    number, layer and place of the fault f
use Rattle.tasks.specs.Faults.{told}
use Rattle.tasks.specs.declared.fault.Layer.TheVariants.{Run}
use Rattle.tasks.specs.declared.fault.Refusal.{Refusal}
use Rattle.queue.specs.declared.fault.QueueFault.{QueueFault}
use Rattle.queue.specs.declared.fault.QueueFault.TheVariants.{Full}

abbrev pub queue_refusal : QueueFault → Refusal
queue_refusal (Full p) = told Run 22 p

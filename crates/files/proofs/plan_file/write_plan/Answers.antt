use Rattle.files.proofs.Encodes.{plan_reads_back}
use Rattle.files.proofs.plan_file.write_plan.Goals as goal

pub returns-clause-reads_back : goal.returns-clause-reads_back
returns-clause-reads_back c = plan_reads_back c.args.plan.now

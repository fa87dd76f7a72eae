use Rattle.mbj_stage.proofs.job_kernel.JobKernel.take_from.Goals as goal

pub take_back-requires-clause-out : goal.take_back-requires-clause-out
take_back-requires-clause-out g c = c.requires.out c.take-entry.result c.take-entry.ensures.taken

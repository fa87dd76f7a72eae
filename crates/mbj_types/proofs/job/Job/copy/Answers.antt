use Rattle.mbj_types.proofs.job.Job.copy.Goals as goal

pub returns : goal.returns
returns c = λ i. record c.args.self.now {
  key = c.in_ok-copy.ensures {u = tt} i;
  iv = c.in_ok-copy-2.ensures {u = tt} i;
  auth_key = c.in_ok-copy-3.ensures {u = tt} i;
  aad = c.in_ok-copy-4.ensures {u = tt} i;
  packet = c.in_ok-copy-5.ensures {u = tt} i;
}

use Rattle.mbj_front.proofs.front.SharedFront.claim_word.Goals as goal

pub compare_exchange-requires : goal.compare_exchange-requires
compare_exchange-requires g c = assumption

pub returns-clause-table : goal.returns-clause-table
returns-clause-table g c = assumption

pub returns-clause-told : goal.returns-clause-told
returns-clause-told g c = assumption

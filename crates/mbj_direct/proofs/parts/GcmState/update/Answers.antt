-- If the text is sealed the part is xored and its ciphertext hashed, and if it is opened the part is hashed and then xored.
use Rattle.mbj_direct.proofs.Taken.{part_is, opened_next, sealed_next}
use Rattle.mbj_direct.proofs.parts.GcmState.update.Goals as goal

pub returns-then-dir-eq-OPENS-clause-part : goal.returns-then-dir-eq-OPENS-clause-part
returns-then-dir-eq-OPENS-clause-part c key iv aad text sealing h =
    part_is key iv aad text c.args.part.now sealing c.args.self.now c.text_key-key.result c.xor_part.new.part
    c.text_key-key.ensures.schedule c.text_key-key.ensures.length h c.xor_part.ensures

pub returns-then-dir-eq-OPENS-clause-taken : goal.returns-then-dir-eq-OPENS-clause-taken
returns-then-dir-eq-OPENS-clause-taken c key iv aad text sealing h =
    opened_next key iv aad text c.args.part.now sealing c.args.self.now _ c.if-dir-eq-OPENS.true h
    c.take.ensures.subkey (λ xs d. c.take.ensures.hashed xs d)

pub returns-clause-part : goal.returns-clause-part
returns-clause-part c key iv aad text sealing h =
    part_is key iv aad text c.args.part.now sealing c.args.self.now c.text_key-key.result c.xor_part-2.new.part
    c.text_key-key.ensures.schedule c.text_key-key.ensures.length h c.xor_part-2.ensures

pub returns-clause-taken : goal.returns-clause-taken
returns-clause-taken c key iv aad text sealing h =
    sealed_next key iv aad text c.args.part.now sealing c.args.self.now _ c.text_key-key.result c.xor_part-2.new.part
    c.text_key-key.ensures.schedule c.text_key-key.ensures.length c.if-dir-eq-OPENS.false h c.xor_part-2.ensures
    c.take-2.ensures.subkey (λ xs d. c.take-2.ensures.hashed xs d)

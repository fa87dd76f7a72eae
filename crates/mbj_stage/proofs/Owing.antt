-- What a course owes: at its start the job's result, and the same after each step.
use Rattle.std.proofs.Common.{◌≡◌, ℕ, false, List, [], ◌∷◌, ◌++◌, take, Option, Some, None, refl, sym, ap, ap₂, ◌∙◌, append-nil}
use Rattle.std.specs.Option.{option_map_or}
use Rattle.std.proofs.Math.Seq.{take-nil}
use Rattle.mbj_types.specs.declared.job.Job.{Job}
use Rattle.mbj_types.specs.declared.job.Cipher.{Cipher}
use Rattle.mbj_types.specs.declared.job.Cipher.TheVariants as cipher
use Rattle.mbj_types.specs.declared.job.Order.{Order}
use Rattle.mbj_types.specs.declared.job.Order.TheVariants.{CipherHash, HashCipher}
use Rattle.mbj_types.specs.declared.done.Done.{Done}
use Rattle.mbj_types.specs.declared.done.Status.TheVariants as status
use Rattle.mbj_types.specs.declared.reason.Reason.{Reason}
use Rattle.mbj_types.specs.Auths.{class_of}
use Rattle.mbj_types.specs.declared.class.AuthClass.{AuthClass}
use Rattle.mbj_types.specs.declared.class.AuthClass.TheVariants as class
use Rattle.mbj_types.specs.Aes.{aes}
use Rattle.mbj_types.specs.Blocks.{xor_lists}
use Rattle.mbj_types.specs.Ccm.{ccm, ccm_mac, ccm_mask}
use Rattle.mbj_types.specs.declared.job.Dir.{Dir}
use Rattle.mbj_types.specs.declared.job.Dir.TheVariants.{Enc, Dec}
use Rattle.mbj_types.specs.Verdict.{verdict}
use Rattle.mbj_types.specs.Result.{ccm_of, cipher_range, is_enc, ciphered, ciphered_by, mac_by, tag_over, authenticated_in, authenticated_by, accepted, refused, result_of}
use Rattle.mbj_args.proofs.Accepted as table
use Rattle.mbj_stage.specs.declared.stage.Stage.TheVariants as stage
use Rattle.mbj_stage.specs.declared.stage.Step.{Step}
use Rattle.mbj_stage.specs.declared.stage.Step.TheVariants as step
use Rattle.mbj_stage.specs.Steps.{ccm_steps, cipher_steps, auth_steps, ordered, steps_with, steps_of, steps_by, stage_at}
use Rattle.mbj_stage.specs.declared.lengths.Lengths.{Lengths}
use Rattle.mbj_stage.specs.CourseState.{CourseState, ccm_mac_over, with_mac, with_mask, stage_of, begun, packet_after, tag_after, ran, ran_at, status_of, led_to, owed}
use Rattle.mbj_stage.proofs.Gcms.{Pair, both_gcm, both_ccm, neither, makes_tag, is_ciphers, pair_of}
use Rattle.mbj_stage.proofs.Handings.{going}
use Rattle.mbj_stage.proofs.PacketLengths.{ccm-range}
use Rattle.mbj_stage.proofs.StagesOf.{finished-left}
use Rattle.mbj_stage.proofs.Packets.{tag_over-packet}

-- ---- at the start

-- the result of an accepted job, by the packet that its tag is over
abbrev done_over : Job → List ℕ → Done
done_over j p = record { status = status.Ok; packet = ciphered j j.packet; tag = tag_over j p }

-- the steps of a cipher that makes no tag cipher the packet
after_cipher : (c : Cipher) (j : Job) (tag : List ℕ) (left : List Step) → j.cipher ≡ c → makes_tag c ≡ false
    → led_to None (cipher_steps c ++ left) j tag ≡ led_to None left (record j { packet = ciphered j j.packet }) tag
unfolding ciphered
after_cipher cipher.Null j tag left e h =
    ap (λ (p : List ℕ). led_to None left (record j { packet = p }) tag) (sym (ap (λ (c : Cipher). ciphered_by c j.dir j j.packet) e))
after_cipher cipher.Cbc j tag left e h = refl
after_cipher cipher.Ctr j tag left e h = refl
after_cipher cipher.Gcm j tag left e h = absurd (cc)
after_cipher cipher.Ccm j tag left e h = absurd (cc)

-- the steps of an authentication that is no cipher's make the tag
after_auth : (a : AuthClass) (j : Job) (left : List Step) → class_of j.auth ≡ a → is_ciphers a ≡ false
    → led_to None (auth_steps a ++ left) j [] ≡ led_to None left j (tag_over j j.packet)
unfolding tag_over
after_auth class.Null j left e h =
    ap (λ (t : List ℕ). led_to None left j t)
    (sym (ap (λ (a : AuthClass). take j.tag_len (mac_by a j j.packet)) e ∙ take-nil j.tag_len))
after_auth (class.Hmac hash) j left e h = refl
after_auth (class.Cmac key) j left e h = refl
after_auth class.Gcm j left e h = absurd (cc)
after_auth class.Ccm j left e h = absurd (cc)
after_auth (class.Plain hash) j left e h = refl
after_auth class.Gmac j left e h = refl
after_auth (class.States hash) j left e h = refl

-- without GCM and CCM the packet that is authenticated goes by the order
authenticated-ordered : (a : AuthClass) (j : Job) → is_ciphers a ≡ false → authenticated_by a j ≡ authenticated_in j.order j
authenticated-ordered class.Null j h = refl
authenticated-ordered (class.Hmac hash) j h = refl
authenticated-ordered (class.Cmac key) j h = refl
authenticated-ordered class.Gcm j h = absurd (cc)
authenticated-ordered class.Ccm j h = absurd (cc)
authenticated-ordered (class.Plain hash) j h = refl
authenticated-ordered class.Gmac j h = refl
authenticated-ordered (class.States hash) j h = refl

-- the steps of a job without GCM and CCM lead to its result
ordered-led : (o : Order) (j : Job) → j.order ≡ o → makes_tag j.cipher ≡ false → is_ciphers (class_of j.auth) ≡ false
    → led_to None (ordered o (cipher_steps j.cipher) (auth_steps (class_of j.auth))) j [] ≡ done_over j (authenticated_in o j)
ordered-led CipherHash j e hc ha =
    let after : Job = record j { packet = ciphered j j.packet } in
    after_cipher j.cipher j [] (auth_steps (class_of j.auth)) refl hc
    ∙ ap (λ (steps : List Step). led_to None steps after []) (sym (append-nil (auth_steps (class_of j.auth))))
    ∙ after_auth (class_of j.auth) after [] refl ha
    ∙ ap (λ (t : List ℕ). record { status = status.Ok; packet = ciphered j j.packet; tag = t })
    (tag_over-packet j (ciphered j j.packet) (ciphered j j.packet))
ordered-led HashCipher j e hc ha =
    after_auth (class_of j.auth) j (cipher_steps j.cipher) refl ha
    ∙ ap (λ (steps : List Step). led_to None steps j (tag_over j j.packet)) (sym (append-nil (cipher_steps j.cipher)))
    ∙ after_cipher j.cipher j (tag_over j j.packet) [] refl hc

-- the one step of a GCM job, in either order
ordered-gcm : (o : Order) → ordered o (cipher_steps cipher.Gcm) (auth_steps class.Gcm) ≡ step.Gcm ∷ []
ordered-gcm CipherHash = refl
ordered-gcm HashCipher = refl

-- the steps of CCM make the tag over the plaintext, which the packet is first or comes to
abbrev ccm_tag : Job → List ℕ → List ℕ
ccm_tag j p = take j.tag_len (xor_lists (ccm_mac_over j p) (ccm_mask (aes j.key) j.iv))

-- the plaintext by the direction
abbrev plain_packet : Dir → Job → List ℕ
plain_packet Enc j = j.packet
plain_packet Dec j = ciphered j j.packet

ccm-steps-led : (d : Dir) (j : Job) → j.dir ≡ d
    → led_to None (ccm_steps d) j [] ≡ record { status = status.Ok; packet = ciphered j j.packet; tag = ccm_tag j (plain_packet d j) }
ccm-steps-led Enc j e =
    ap (λ (d : Dir). record {
      status = status.Ok;
      packet = ciphered j j.packet;
      tag = with_mask j.tag_len (ccm_mask (aes j.key) j.iv) d (with_mac j.tag_len (ccm_mac_over j j.packet) d []);
    }) e
ccm-steps-led Dec j e =
    ap (λ (d : Dir). record {
      status = status.Ok;
      packet = ciphered j j.packet;
      tag = with_mac j.tag_len (ccm_mac_over j (ciphered j j.packet)) d (with_mask j.tag_len (ccm_mask (aes j.key) j.iv) d []);
    }) e

-- the plaintext of a CCM job
ccm-plain : (d : Dir) (j : Job) → verdict j ≡ None → j.cipher ≡ cipher.Ccm → j.dir ≡ d → ccm_tag j (plain_packet d j) ≡ take j.tag_len (ccm_of j j.packet).1
unfolding ccm_of
ccm-plain Enc j none is e =
    ap (λ (d : Dir). take j.tag_len (ccm (aes j.key) j.iv j.aad (cipher_range j j.packet) j.tag_len (is_enc d)).1) (sym e)
ccm-plain Dec j none is e =
    ap (λ (text : List ℕ). take j.tag_len (xor_lists (ccm_mac (aes j.key) j.iv j.aad text j.tag_len) (ccm_mask (aes j.key) j.iv))) (ccm-range j none is)
    ∙ ap (λ (d : Dir). take j.tag_len (ccm (aes j.key) j.iv j.aad (cipher_range j j.packet) j.tag_len (is_enc d)).1) (sym e)

-- the steps of an accepted CCM job lead to its result
ccm-led : (j : Job) → verdict j ≡ None → j.cipher ≡ cipher.Ccm → class_of j.auth ≡ class.Ccm → led_to None (steps_of j) j [] ≡ accepted j
unfolding tag_over
ccm-led j none is auth =
    ap (λ (c : Cipher). led_to None (steps_with c j) j []) is
    ∙ ccm-steps-led j.dir j refl
    ∙ ap (λ (t : List ℕ). record { status = status.Ok; packet = ciphered j j.packet; tag = t })
    (ccm-plain j.dir j none is refl ∙ sym (ap (λ (a : AuthClass). take j.tag_len (mac_by a j (authenticated_by a j))) auth))

-- a cipher that makes no tag has its steps in the job's order
steps-ordered : (c : Cipher) (j : Job) → makes_tag c ≡ false → steps_with c j ≡ ordered j.order (cipher_steps c) (auth_steps (class_of j.auth))
steps-ordered cipher.Null j h = refl
steps-ordered cipher.Cbc j h = refl
steps-ordered cipher.Ctr j h = refl
steps-ordered cipher.Gcm j h = absurd (cc)
steps-ordered cipher.Ccm j h = absurd (cc)

pair-led : (j : Job) → verdict j ≡ None → Pair j.cipher (class_of j.auth) → led_to None (steps_of j) j [] ≡ accepted j
pair-led j none (both_gcm c a) =
    ap (λ (c : Cipher). led_to None (steps_with c j) j []) c
    ∙ ap (λ (a : AuthClass). led_to None (ordered j.order (cipher_steps cipher.Gcm) (auth_steps a)) j []) a
    ∙ ap (λ (steps : List Step). led_to None steps j []) (ordered-gcm j.order)
    ∙ ap (λ (a : AuthClass). done_over j (authenticated_by a j)) (sym a)
pair-led j none (both_ccm c a) = ccm-led j none c a
pair-led j none (neither c a) =
    ap (λ (steps : List Step). led_to None steps j []) (steps-ordered j.cipher j c)
    ∙ ordered-led j.order j refl c a
    ∙ ap (done_over j) (sym (authenticated-ordered (class_of j.auth) j a))

-- the steps of an accepted job lead to its result
accepted-led : (j : Job) → verdict j ≡ None → led_to None (steps_of j) j [] ≡ accepted j
accepted-led j none = pair-led j none (pair_of j.cipher (class_of j.auth) (table.accepted j _ none).pair)

begun-led : (reason : Option Reason) (j : Job) → verdict j ≡ reason
    → led_to reason (steps_by reason j) j [] ≡ option_map_or (refused j) reason (accepted j)
begun-led None j e = accepted-led j e
begun-led (Some reason) j e = refl

-- a course with nothing done owes the job's result
pub owed-begun : (j : Job) → owed (begun j) ≡ result_of j
unfolding owed result_of
owed-begun j = begun-led (verdict j) j refl

-- ---- after a step

led_to-ran : (c : CourseState) (left : List Step) → stage_at c.job left ≡ stage.Now
    → led_to (ran_at c left).reason (ran_at c left).left (ran_at c left).job (ran_at c left).tag ≡ led_to c.reason left c.job c.tag
led_to-ran c [] h = absurd (cc)
led_to-ran c (s ∷ left) h = refl

-- doing the next step changes nothing of what is owed
pub owed-ran : (c : CourseState) → stage_of c ≡ stage.Now → owed (ran c) ≡ owed c
unfolding owed
owed-ran c h = led_to-ran c c.left h

-- a course by its fields, when the first step has changed packet and tag
pub ran-step : (n : Lengths) (j k : Job) (tag t : List ℕ) (reason : Option Reason) (s : Step) (left all : List Step) (out : Option ℕ) → all ≡ s ∷ left
    → k ≡ record j { packet = packet_after s j j.packet } → t ≡ tag_after s j j.packet tag
    → going n k t reason left out ≡ ran (going n j tag reason all out)
ran-step n j k tag t reason s left all out is job_is tag_is =
    ap₂ (λ (x : Job) (y : List ℕ). going n x y reason left out) job_is tag_is
    ∙ ap (λ (steps : List Step). ran (going n j tag reason steps out)) (sym is)

-- ---- at the end

led_to-finished : (reason : Option Reason) (j : Job) (tag : List ℕ) (left : List Step) → stage_at j left ≡ stage.Finished
    → record { status = status_of reason; packet = j.packet; tag = tag } ≡ led_to reason left j tag
led_to-finished reason j tag left h = ap (λ (steps : List Step). led_to reason steps j tag) (sym (finished-left j left h))

-- if no step is left, what is owed is there
pub owed-finished : (c : CourseState) → stage_of c ≡ stage.Finished
    → record { status = status_of c.reason; packet = c.job.packet; tag = c.tag } ≡ owed c
unfolding owed
owed-finished c h = led_to-finished c.reason c.job c.tag c.left h

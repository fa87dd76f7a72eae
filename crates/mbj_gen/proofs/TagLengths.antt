-- How long a result's tag may be.
use Rattle.std.proofs.Common.{◌≡◌, ℕ, ◌≤◌, ◌%◌, ◌==◌, ◌&&◌, true, length, Option, Some, None, refl, arith}
use Rattle.std.specs.Prelude.{nat_le, nat_lt}
use Rattle.std.proofs.lemmas.Bool.{and_parts, eqb-true, leb-true}
use Rattle.std.specs.Option.{option_map_or}
use Rattle.std.proofs.lemmas.List.{length-take}
use Rattle.mbj_types.specs.Auths.{class_of, hash_of_name}
use Rattle.mbj_types.specs.Verdict.{takes_tag, verdict}
use Rattle.mbj_types.specs.Result.{accepted, authenticated_by, mac_by, refused, result_of, tag_over}
use Rattle.mbj_types.specs.declared.job.Job.{Job}
use Rattle.mbj_types.specs.declared.class.AuthClass.{AuthClass}
use Rattle.mbj_types.specs.declared.class.AuthClass.TheVariants as class
use Rattle.mbj_types.specs.declared.class.HashName.{HashName}
use Rattle.mbj_types.specs.declared.class.HashName.TheVariants.{Sha1}
use Rattle.mbj_types.specs.declared.limits.TheConstants.{MAX_TAG_BYTES}
use Rattle.mbj_types.specs.declared.reason.Reason.{Reason}
use Rattle.mbj_args.proofs.Accepted as table

hash-fits : (h : HashName) → (hash_of_name h).digest_bytes ≤ MAX_TAG_BYTES
hash-fits Sha1 = omega arith
hash-fits _ = omega arith

within : (n most : ℕ) → nat_lt 0 n && nat_le n most ≡ true → n ≤ most
within n most t = leb-true n most (and_parts (nat_lt 0 n) (nat_le n most) t).1

tag-fits : (a : AuthClass) (n : ℕ) → takes_tag a n ≡ true → n ≤ MAX_TAG_BYTES
tag-fits class.Null n t = let e = eqb-true n 0 t in omega arith
tag-fits (class.Hmac h) n t = let few = within n (hash_of_name h).digest_bytes t in let all = hash-fits h in omega arith
tag-fits (class.Cmac k) n t = let few = within n 16 t in omega arith
tag-fits class.Gcm n t = let few = within n 16 t in omega arith
tag-fits (class.Plain h) n t = let few = within n (hash_of_name h).digest_bytes t in let all = hash-fits h in omega arith
tag-fits class.Gmac n t = let few = within n 16 t in omega arith
tag-fits (class.States h) n t = let few = within n (hash_of_name h).digest_bytes t in let all = hash-fits h in omega arith
tag-fits class.Ccm n t =
    let within = and_parts (nat_le 4 n && nat_le n 16) (n % 2 == 0) t in
    let few = leb-true n 16 (and_parts (nat_le 4 n) (nat_le n 16) within.0).1 in omega arith

length-tag_by : (reason : Option Reason) (j : Job) → verdict j ≡ reason
    → length (option_map_or (refused j) reason (accepted j)).tag ≤ MAX_TAG_BYTES
unfolding tag_over
length-tag_by None j none =
    let most = tag-fits (class_of j.auth) j.tag_len (table.accepted j (length j.packet) none).tag in
    omega (arith, length-take j.tag_len (mac_by (class_of j.auth) j (authenticated_by (class_of j.auth) j)))
length-tag_by (Some reason) j e = omega arith

-- a result's tag is no longer than the longest tag
pub length-tag : (j : Job) → length (result_of j).tag ≤ MAX_TAG_BYTES
unfolding result_of
length-tag j = length-tag_by (verdict j) j refl

-- An authentication whose hash is served.
use Rattle.std.proofs.Common.{◌≡◌, sym, ◌∙◌, subst}
use Rattle.std.specs.Prelude.{IfSome}
use Rattle.mbj_types.specs.declared.class.AuthClass.{AuthClass}
use Rattle.mbj_types.specs.declared.class.AuthClass.TheVariants as class
use Rattle.mbj_types.specs.declared.class.HashName.{HashName}
use Rattle.mbj_types.specs.declared.job.Auth.{Auth}
use Rattle.mbj_types.specs.Auths.{class_of, compression_of_name, hash_in, hash_of, hash_of_name, plain_hash_in, plain_hash_of, states_hash_in, states_hash_of}
use Rattle.mbj_types.specs.Hmac.{Hash}
use Rattle.mbj_types.specs.States.{Compression}
use Rattle.mbj_hmac.specs.Names.{name_in, name_of, plain_name_in, plain_name_of, states_name_in, states_name_of}

module _ (a : Auth) (n : HashName) (is : class_of a ≡ class.Hmac n) where
  -- what holds of its hash
  pub of_hash : (P : Hash → Type 0) → P (hash_of_name n) → IfSome (hash_of a) P
  of_hash P p = let Holds : AuthClass → Type 0 = λ c. IfSome (hash_in c) P in subst Holds (sym is) p

  -- what holds of its name
  pub of_name : (P : HashName → Type 0) → P n → IfSome (name_of a) P
  of_name P p = let Holds : AuthClass → Type 0 = λ c. IfSome (name_in c) P in subst Holds (sym is) p

-- ---- digests

module _ (a : Auth) (n : HashName) (is : class_of a ≡ class.Plain n) where
  -- what holds of its hash
  pub of_plain_hash : (P : Hash → Type 0) → P (hash_of_name n) → IfSome (plain_hash_of a) P
  of_plain_hash P p = let Holds : AuthClass → Type 0 = λ c. IfSome (plain_hash_in c) P in subst Holds (sym is) p

  -- what holds of its name
  pub of_plain_name : (P : HashName → Type 0) → P n → IfSome (plain_name_of a) P
  of_plain_name P p = let Holds : AuthClass → Type 0 = λ c. IfSome (plain_name_in c) P in subst Holds (sym is) p

-- ---- HMACs from states

module _ (a : Auth) (n : HashName) (is : class_of a ≡ class.States n) where
  -- what holds of its hash
  pub of_states_hash : (P : Compression → Type 0) → P (compression_of_name n) → IfSome (states_hash_of a) P
  of_states_hash P p = let Holds : AuthClass → Type 0 = λ c. IfSome (states_hash_in c) P in subst Holds (sym is) p

  -- what holds of its name
  pub of_states_name : (P : HashName → Type 0) → P n → IfSome (states_name_of a) P
  of_states_name P p = let Holds : AuthClass → Type 0 = λ c. IfSome (states_name_in c) P in subst Holds (sym is) p

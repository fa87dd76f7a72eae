-- The kinds of work that are done in lanes.
use Rattle.std.specs.Prelude.{ℕ, List, [], ◌∷◌, codes}
use Rattle.mbj_types.specs.declared.kind.Kind.{Kind}
use Rattle.mbj_types.specs.declared.kind.TheConstants.{AES_LANES, SHA1_LANES, SHA256_LANES, SHA512_LANES}
use Rattle.mbj_types.specs.declared.kind.Kind.TheVariants.{Cbc128, Cbc192, Cbc256, Cmac128, Cmac256, HmacSha1, HmacSha256, HmacSha512, Ccm128, Ccm192, Ccm256}

-- every kind, in the order in which they are told
abbrev pub all_kinds : List Kind
all_kinds =
    Cbc128 ∷ Cbc192 ∷ Cbc256 ∷ Cmac128 ∷ Cmac256 ∷ HmacSha1 ∷ HmacSha256 ∷ HmacSha512
    ∷ Ccm128 ∷ Ccm192 ∷ Ccm256 ∷ []

-- the place of a kind among them
abbrev pub index_of : Kind → ℕ
index_of Cbc128 = 0
index_of Cbc192 = 1
index_of Cbc256 = 2
index_of Cmac128 = 3
index_of Cmac256 = 4
index_of HmacSha1 = 5
index_of HmacSha256 = 6
index_of HmacSha512 = 7
index_of Ccm128 = 8
index_of Ccm192 = 9
index_of Ccm256 = 10

-- how many jobs of a kind one run serves
abbrev pub lanes_of : Kind → ℕ
lanes_of Cbc128 = AES_LANES
lanes_of Cbc192 = AES_LANES
lanes_of Cbc256 = AES_LANES
lanes_of Cmac128 = AES_LANES
lanes_of Cmac256 = AES_LANES
lanes_of HmacSha1 = SHA1_LANES
lanes_of HmacSha256 = SHA256_LANES
lanes_of HmacSha512 = SHA512_LANES
lanes_of Ccm128 = AES_LANES
lanes_of Ccm192 = AES_LANES
lanes_of Ccm256 = AES_LANES

-- how a kind is printed
abbrev pub name_of : Kind → List ℕ
name_of Cbc128 = codes "cbc128"
name_of Cbc192 = codes "cbc192"
name_of Cbc256 = codes "cbc256"
name_of Cmac128 = codes "cmac128"
name_of Cmac256 = codes "cmac256"
name_of HmacSha1 = codes "hmac-sha1"
name_of HmacSha256 = codes "hmac-sha256"
name_of HmacSha512 = codes "hmac-sha512"
name_of Ccm128 = codes "ccm128"
name_of Ccm192 = codes "ccm192"
name_of Ccm256 = codes "ccm256"

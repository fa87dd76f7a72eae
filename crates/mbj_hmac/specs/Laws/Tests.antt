-- No test is both true and false.
use Rattle.std.proofs.Common.{◌≡◌, true, false}

pub not_both : false ≡ true → ⊥
not_both e = cc

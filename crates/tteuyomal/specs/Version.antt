-- Definitions. The version of the C functions as one number: 1,000,000 times the first of its three parts, 1,000 times the second, and the third.
-- The first grows when a function that is there changes what it replies or takes, the second when one is added, the third with any other change.
use Rattle.std.specs.Prelude.{ℕ, ◌+◌, ◌*◌, ◌≡◌}
use Rattle.std.proofs.Common.{sym, ◌∙◌}

abbrev pub version : ℕ
version = 1000000 * 4 + 1000 * 1 + 0

-- two numbers that are the version are one
pub unique-version : {x y : ℕ} → x ≡ version → y ≡ version → x ≡ y
unique-version p q = p ∙ sym q

-- Definitions. Which fields some claims ask for.
use Rattle.std.specs.Prelude.{ℕ, zero, suc, ◌+◌, Bool, true, false, List, eqb, ltb, length}
use Rattle.reply.specs.Read.{if_else}
use Rattle.records.specs.Bytes.{byte_at}
use Rattle.claiming.specs.Claims.{size_at}

-- whether one of the claims from a place on is of a field
unfoldable pub asks_from : ℕ → ℕ → List ℕ → ℕ → Bool
asks_from zero f cs at = false
asks_from (suc fuel) f cs at = if_else (ltb at (length cs)) (λ _. if_else (eqb (byte_at cs at) f) (λ _. true) (λ _. asks_from fuel f cs (at + size_at cs at))) (λ _. false)

unfoldable pub asks : ℕ → List ℕ → Bool
asks f cs = asks_from (length cs) f cs 0

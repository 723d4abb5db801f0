-- A choice, digit by digit from the last site's. Assumes nothing.
use Prim.Native.Nat.{ℕ, suc, ◌/◌, ◌%◌, ◌≤◌, ◌<◌}
use mathlib.Core.List.{List, ◌∷◌}
use mathlib.Core.Path.{◌≡◌, refl, ◌∙◌, ap₂}
use native.Mathlib.Omega.{arith}
use lib.ListN.{length, get_or, set}
use lib.Seq.{get_or-set_same, get_or-set_other}
use Rattle.catalogue.specs.Products.{choice_at}
use Rattle.catalogue.specs.declared.Site.{Site}
use Rattle.catalogue.specs.Said.{no_site}
use Rattle.catalogue.specs.Table.{sites_in}
use Rattle.library.specs.Chosen.{choice_in}

-- two tables have the same digits from an index on
abbrev pub Agree : List ℕ → List ℕ → ℕ → Type 0
Agree t digits k = (i : ℕ) → k ≤ i → get_or t i 0 ≡ get_or digits i 0

-- whatever the first k digits are, if they are those of what is left then all are those of the position
abbrev pub Chosen : List Site → ℕ → ℕ → List ℕ → ℕ → ℕ → Type 0
Chosen sites n position digits k p =
    (t : List ℕ) → Agree t digits k → choice_in t k ≡ choice_at (sites_in sites k) p → choice_in t n ≡ choice_at (sites_in sites n) position

module _ (sites : List Site) (n position : ℕ) (digits : List ℕ) where
  pub choose_next : (k p : ℕ) → k < length digits → Chosen sites n position digits (suc k) p
      → Chosen sites n position (set digits k (p % (get_or sites k no_site).many)) k (p / (get_or sites k no_site).many)
  unfolding choice_in choice_at sites_in
  choose_next k p h c t a e =
      let x = p % (get_or sites k no_site).many in
      c t (λ i l. a i (omega arith) ∙ get_or-set_other digits k i x 0 (λ q. omega (arith, q))) (ap₂ ◌∷◌ (a k (omega arith) ∙ get_or-set_same digits k x 0 h) e)

  pub choose_end : (p : ℕ) → Chosen sites n position digits 0 p → choice_in digits n ≡ choice_at (sites_in sites n) position
  unfolding choice_in choice_at sites_in
  choose_end p c = c digits (λ i l. refl) refl

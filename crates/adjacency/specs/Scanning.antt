-- Laws. The numbers of a text, byte by byte, and its first fault. Assumes nothing.
use Rattle.std.specs.Prelude.{ℕ, suc, ◌+◌, ◌<◌, ◌≤◌, Bool, true, false, ◌||◌, cond, List, [], ◌∷◌, ◌≡◌, refl, ltb, length, get_or, drop}
use Rattle.std.proofs.Common.{◌∙◌, ap, arith, le-ltb, drop_of_length-le, length-drop, drop-cons}
use Rattle.std.proofs.Math.Numerals.{add-one}
use Rattle.reply.specs.Read.{if_else}
use Rattle.text.specs.Text.{is_digit}
use Rattle.adjacency.specs.Neighbours.{TextNumber, text_number, most_value, too_much, grown, Run, none, run, longer, ended, numbers_from, is_apart, is_good, good_bytes, large_at, fault_at}
use Rattle.adjacency.specs.Work.{numbers_at, value_after, start_after, Looking}

module _ (t : List ℕ) (i : ℕ) where
  module _ (h : length t ≤ i) where
    pub numbers_past : numbers_at t i ≡ []
    unfolding numbers_from
    numbers_past = rw (drop_of_length-le t h)

    pub run_past : (x : TextNumber) → numbers_from (run x) i (drop i t) ≡ x ∷ numbers_at t i
    unfolding numbers_from
    run_past x = rw (drop_of_length-le t h)

    good_past : good_bytes (drop i t) ≡ 0
    unfolding good_bytes
    good_past = rw (drop_of_length-le t h)

  module _ (h : i < length t) where
    pub numbers_skip : is_digit (get_or t i 0) ≡ false → numbers_at t i ≡ numbers_at t (i + 1)
    unfolding numbers_from
    numbers_skip e = rw (drop-cons t i 0 h, e, add-one i)

    pub numbers_first : is_digit (get_or t i 0) ≡ true → numbers_at t i ≡ numbers_from (run (text_number (grown 0 (get_or t i 0)) i)) (i + 1) (drop (i + 1) t)
    unfolding numbers_from
    numbers_first e = rw (drop-cons t i 0 h, e, add-one i)

    pub run_more : (x : TextNumber) → is_digit (get_or t i 0) ≡ true → numbers_from (run x) i (drop i t) ≡ numbers_from (run (text_number (grown x.value (get_or t i 0)) x.place)) (i + 1) (drop (i + 1) t)
    unfolding numbers_from
    run_more x e = rw (drop-cons t i 0 h, e, add-one i)

    pub run_stop : (x : TextNumber) → is_digit (get_or t i 0) ≡ false → numbers_from (run x) i (drop i t) ≡ x ∷ numbers_at t i
    unfolding numbers_from
    run_stop x e = rw (drop-cons t i 0 h, e)

    good_more : is_good (get_or t i 0) ≡ true → good_bytes (drop i t) ≡ suc (good_bytes (drop (i + 1) t))
    unfolding good_bytes
    good_more e = rw (drop-cons t i 0 h, e, add-one i)

    good_bad : is_good (get_or t i 0) ≡ false → good_bytes (drop i t) ≡ 0
    unfolding good_bytes
    good_bad e = rw (drop-cons t i 0 h, e)

-- a 0 before a place where none goes on changes nothing of what is too large
run_of_none : (last i : ℕ) (bs : List ℕ) → large_at last (numbers_from (run (text_number 0 i)) i bs) ≡ large_at last (numbers_from none i bs)
unfolding numbers_from large_at
run_of_none last i [] = refl
run_of_none last i (b ∷ bs) = go (is_digit b)
  where
    go : (t : Bool)
        → large_at last (if_else t (λ _. numbers_from (longer (run (text_number 0 i)) i b) (i + 1) bs) (λ _. ended (run (text_number 0 i)) (numbers_from none (i + 1) bs)))
        ≡ large_at last (if_else t (λ _. numbers_from (longer none i b) (i + 1) bs) (λ _. ended none (numbers_from none (i + 1) bs)))
    go true = refl
    go false = refl

-- what is too large stays so, whatever digits follow
run_large : (last start at : ℕ) (bs : List ℕ) → large_at last (numbers_from (run (text_number too_much start)) at bs) ≡ start
unfolding numbers_from large_at
run_large last start at [] = refl
run_large last start at (b ∷ bs) = go (is_digit b) (run_large last start (at + 1) bs)
  where
    go : (t : Bool) → large_at last (numbers_from (run (text_number too_much start)) (at + 1) bs) ≡ start
        → large_at last (if_else t (λ _. numbers_from (longer (run (text_number too_much start)) at b) (at + 1) bs) (λ _. ended (run (text_number too_much start)) (numbers_from none (at + 1) bs))) ≡ start
    go true more = let e : grown too_much b ≡ too_much = omega arith in rw e more
    go false more = refl

-- a number that is too large begins with the run or later
abbrev begins : Run → ℕ → ℕ
begins none at = at
begins (run x) at = x.place

passed : (x : TextNumber) (last : ℕ) (xs : List TextNumber) → x.place ≤ large_at last xs → x.place ≤ large_at last (x ∷ xs)
unfolding large_at
passed x last xs h = go (ltb most_value x.value)
  where
    go : (t : Bool) → x.place ≤ if_else t (λ _. x.place) (λ _. large_at last xs)
    go true = omega arith
    go false = h

later : (r : Run) (last at : ℕ) (bs : List ℕ) → begins r at ≤ at → at + length bs ≤ last → begins r at ≤ large_at last (numbers_from r at bs)
unfolding numbers_from large_at
later none last at [] p h = omega arith
later (run x) last at [] p h = passed x last [] (omega arith)
later none last at (b ∷ bs) p h = go (is_digit b) (later (longer none at b) last (at + 1) bs (omega arith) (omega arith)) (later none last (at + 1) bs (omega arith) (omega arith))
  where
    go : (t : Bool) → at ≤ large_at last (numbers_from (longer none at b) (at + 1) bs) → at + 1 ≤ large_at last (numbers_from none (at + 1) bs)
        → at ≤ large_at last (if_else t (λ _. numbers_from (longer none at b) (at + 1) bs) (λ _. numbers_from none (at + 1) bs))
    go true q r = q
    go false q r = omega arith
later (run x) last at (b ∷ bs) p h = go (is_digit b) (later (longer (run x) at b) last (at + 1) bs (omega arith) (omega arith)) (later none last (at + 1) bs (omega arith) (omega arith))
  where
    go : (t : Bool) → x.place ≤ large_at last (numbers_from (longer (run x) at b) (at + 1) bs) → at + 1 ≤ large_at last (numbers_from none (at + 1) bs)
        → x.place ≤ large_at last (if_else t (λ _. numbers_from (longer (run x) at b) (at + 1) bs) (λ _. x ∷ numbers_from none (at + 1) bs))
    go true q r = q
    go false q r = passed x last (numbers_from none (at + 1) bs) (omega arith)

small_passed : (last v p : ℕ) (xs : List TextNumber) → v ≤ most_value → large_at last (text_number v p ∷ xs) ≡ large_at last xs
unfolding large_at
small_passed last v p xs h = rw (le-ltb most_value v h)

none_large : (last : ℕ) → large_at last [] ≡ last
unfolding large_at
none_large last = refl

-- the first fault, byte by byte
pub looking_start : (t : List ℕ) → Looking t 0 0 0
unfolding fault_at
looking_start t = record { same = let e : 0 + good_bytes t ≡ good_bytes t = omega arith in rw (e, run_of_none (length t) 0 t); small = omega arith; first = omega arith; within = omega arith }

module _ {t : List ℕ} {value start i : ℕ} (l : Looking t value start i) where
  -- a number that goes on here, or ends here
  abbrev here : TextNumber
  here = text_number value start

  stopped : (xs : List TextNumber) → numbers_from (run here) i (drop i t) ≡ here ∷ xs → large_at (length t) (numbers_from (run here) i (drop i t)) ≡ large_at (length t) xs
  stopped xs e = ap (large_at (length t)) e ∙ small_passed (length t) value start xs l.small

  pub looking_end : length t ≤ i → i ≡ fault_at t
  looking_end h =
      omega (arith, l.same, l.within, good_past t i h, stopped (numbers_at t i) (run_past t i h here), ap (large_at (length t)) (numbers_past t i h), none_large (length t))

  module _ (h : i < length t) where
    pub looking_bad : is_good (get_or t i 0) ≡ false → i ≡ fault_at t
    looking_bad e =
        omega (
          arith,
          l.same,
          good_bad t i h e,
          stopped (numbers_at t i) (run_stop t i h here (no_digit (is_digit (get_or t i 0)) (is_apart (get_or t i 0)) e)),
          later none (length t) i (drop i t) (omega arith) (omega (arith, length-drop i t)),
        )
      where
        no_digit : (p q : Bool) → (p || q) ≡ false → p ≡ false
        no_digit true q f = f
        no_digit false q f = refl

    pub looking_large : most_value < value_after value (get_or t i 0) → start ≡ fault_at t
    looking_large = go (is_digit (get_or t i 0)) refl
      where
        go : (p : Bool) → is_digit (get_or t i 0) ≡ p → most_value < cond p (grown value (get_or t i 0)) 0 → start ≡ fault_at t
        go true e q =
            let g : grown value (get_or t i 0) ≡ too_much = omega arith in
            omega (
              arith,
              l.same,
              l.first,
              ap (large_at (length t)) (run_more t i h here e) ∙ ap (λ (v : ℕ). large_at (length t) (numbers_from (run (text_number v start)) (i + 1) (drop (i + 1) t))) g ∙ run_large (length t) start (i + 1) (drop (i + 1) t),
            )
        go false e q = absurd (omega arith)

    pub looking_next : is_good (get_or t i 0) ≡ true → value_after value (get_or t i 0) ≤ most_value → Looking t (value_after value (get_or t i 0)) (start_after start (i + 1) (get_or t i 0)) (i + 1)
    looking_next f = go (is_digit (get_or t i 0)) refl
      where
        good : i + good_bytes (drop i t) ≡ i + 1 + good_bytes (drop (i + 1) t)
        good = omega (arith, good_more t i h f)

        go : (p : Bool) → is_digit (get_or t i 0) ≡ p → cond p (grown value (get_or t i 0)) 0 ≤ most_value → Looking t (cond p (grown value (get_or t i 0)) 0) (cond p start (i + 1)) (i + 1)
        go true e q = record { same = l.same ∙ rw (good, run_more t i h here e); small = q; first = omega (arith, l.first); within = omega arith }
        go false e q = record {
          same = l.same ∙ rw (good, stopped (numbers_at t i) (run_stop t i h here e), numbers_skip t i h e, run_of_none (length t) (i + 1) (drop (i + 1) t));
          small = q;
          first = omega arith;
          within = omega arith;
        }

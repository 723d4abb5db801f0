-- Laws. What is said where no number is lent for how many are held; and by what the library says. Assumes nothing.
use Rattle.std.specs.Prelude.{ℕ, ◌≤◌, ◌<◌, Bool, true, false, List, [], ◌∷◌, ◌≡◌, refl, length, get_or, Result, Ok, Err}
use Rattle.std.proofs.Common.{sym, ◌∙◌, ap, arith, eq-eqb, ne_eqb}
use Rattle.reply.specs.Read.{Read, refused, read, is_outside, as_read}
use Rattle.reply.specs.declared.Refusal.{Refusal}
use Rattle.catalogue.specs.Library.{Library, library_reply}
use Rattle.library.specs.Values.{most_fields, values_reply, said_values}
use Rattle.placing.specs.Ranked.{Entry}
use Rattle.ranking.specs.Best.{best_reply, said_best, best_out}
use Rattle.calls.specs.Convention.{code, coded, out_after, number_list, Lent, then_nine}
use Rattle.calls.proofs.Laws.{number_fits}
use Rattle.ranking_calls.specs.Ranks.{wants_greatest, best_for, held_out, Ranks}

pub wants_smallest : (g : ℕ) → g ≡ 0 → false ≡ wants_greatest g
wants_smallest g e = rw (eq-eqb g 0 e)

pub wants_greatest_lem : (g : ℕ) → (g ≡ 0 → ⊥) → true ≡ wants_greatest g
wants_greatest_lem g e = rw (ne_eqb g 0 e)

-- what the values' reply tells
pub values_refused : (x : Read (List ℕ)) (q : Refusal) → said_values x ≡ Err q → code q ≡ coded (then_nine x)
values_refused (refused r) q e = let f : r ≡ q = cc in ap code (sym f)
values_refused (read l) q e = absurd (let z : ◌≡◌ {A = ℕ} 0 1 = cc in omega arith)

pub values_of : (x : Read (List ℕ)) (n : ℕ) → said_values x ≡ Ok n → 9 ≡ coded (then_nine x)
values_of (refused r) n e = absurd (let z : ◌≡◌ {A = ℕ} 0 1 = cc in omega arith)
values_of (read l) n e = refl

-- NOT LENT: the library's refusals, 35, then 9
pub unlent_best : (d : List ℕ) (field n : ℕ) (g : Bool) (tag held : ℕ) → coded (then_nine (values_reply d field 0 n)) ≡ coded (best_reply d field g tag [] held)
unfolding values_reply best_reply
unlent_best d field n g tag held = go (library_reply d) refl (is_outside most_fields field) refl
  where
    go : (x : Read Library) → library_reply d ≡ x → (o : Bool) → is_outside most_fields field ≡ o → coded (then_nine (values_reply d field 0 n)) ≡ coded (best_reply d field g tag [] held)
    go (refused r) a o b = rw a
    go (read l) a true b = rw (a, b)
    go (read l) a false b = rw (a, b)

none_lent : (d : List ℕ) (field : ℕ) (g : Bool) (tag h : ℕ) (best held : List ℕ) → (best_out best (best_reply d field g tag [] h) ≡ best) × (held_out (best_reply d field g tag [] h) held ≡ held)
unfolding best_reply
none_lent d field g tag h best held = go (library_reply d) refl (is_outside most_fields field) refl
  where
    go : (x : Read Library) → library_reply d ≡ x → (o : Bool) → is_outside most_fields field ≡ o → (best_out best (best_reply d field g tag [] h) ≡ best) × (held_out (best_reply d field g tag [] h) held ≡ held)
    go (refused r) a o b = rw a (refl, refl)
    go (read l) a true b = rw (a, b) (refl, refl)
    go (read l) a false b = rw (a, b) (refl, refl)

module _ (d : List ℕ) (field greatest tag : ℕ) (best : List ℕ) where
  pub ranks_lacking : (held : List ℕ) → length held < 1 → (r : ℕ) → r ≡ coded (then_nine (values_reply d field 0 1)) → Ranks (best_for d field greatest tag best held) best held r best held
  ranks_lacking [] h r e = record {
    replied = e ∙ unlent_best d field 1 (wants_greatest greatest) tag 0;
    entries = sym (none_lent d field (wants_greatest greatest) tag 0 best []).0;
    many = sym (none_lent d field (wants_greatest greatest) tag 0 best []).1;
  }
  ranks_lacking (x ∷ xs) h r e = absurd (omega arith)

  said_held : (x : Read (List Entry)) (held : List ℕ) → (coded (as_read (said_best x)) ≡ coded x) × (out_after (number_list (as_read (said_best x))) held ≡ held_out x held)
  said_held (refused r) held = (refl, refl)
  said_held (read l) held = (refl, refl)

  pub ranks_told : (held : List ℕ) → 1 ≤ length held → (g : Bool) → g ≡ wants_greatest greatest → (told : Result ℕ Refusal) (r : ℕ) (best' held' : List ℕ)
      → told ≡ said_best (best_reply d field g tag best (get_or held 0 0)) → best' ≡ best_out best (best_reply d field g tag best (get_or held 0 0))
      → Lent (number_list (as_read told)) held r held' → Ranks (best_for d field greatest tag best held) best held r best' held'
  ranks_told [] h g w told r best' held' e f l = absurd (omega arith)
  ranks_told (y ∷ held) h g w told r best' held' e f l =
      let same : best_reply d field g tag best y ≡ best_reply d field (wants_greatest greatest) tag best y = ap (λ (b : Bool). best_reply d field b tag best y) w in
      let x = best_reply d field g tag best y in
      let (p, q) = number_fits (as_read told) h l in
      let (s, t) = said_held x (y ∷ held) in
      record {
        replied = p ∙ ap (λ (t : Result ℕ Refusal). coded (as_read t)) e ∙ s ∙ ap coded same;
        entries = f ∙ ap (best_out best) same;
        many = q ∙ ap (λ (t : Result ℕ Refusal). out_after (number_list (as_read t)) (y ∷ held)) e ∙ t ∙ ap (λ (z : Read (List Entry)). held_out z (y ∷ held)) same;
      }

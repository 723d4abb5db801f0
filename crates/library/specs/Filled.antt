-- Work. A row whose first places are filled, one after the other.
use Rattle.std.specs.Prelude.{ℕ, ◌+◌, ◌-◌, ◌≤◌, ◌<◌, Bool, true, false, List, ◌++◌, ◌≡◌, refl, ltb, length, get_or, drop, set}
use Rattle.std.proofs.Common.{sym, ◌∙◌, ap, arith, ltb-true, ltb-false, length-append, length-drop, length-set, ext_get_or, get_or-set_other, get_or-append-add, get_or-drop}
use Rattle.std.proofs.Math.ListN.{get_or-append}
use Rattle.block.specs.Rows.{table}
use Rattle.block.specs.Tables.{length-table, get_or-table}
use Rattle.arms.proofs.Keeping.{put_next}

pub record Filled (f : ℕ → ℕ) (old row : List ℕ) (at : ℕ) : Type 0 where
  pub long : length row ≡ length old
  pub new : (i : ℕ) → i < at → get_or row i 0 ≡ f i
  pub rest : (i : ℕ) → at ≤ i → get_or row i 0 ≡ get_or old i 0

pub filled_start : (f : ℕ → ℕ) (old : List ℕ) → Filled f old old 0
filled_start f old = record { long = refl; new = λ i h. absurd (omega arith); rest = λ i h. refl }

pub filled_next : {f : ℕ → ℕ} {old row : List ℕ} {at : ℕ} → Filled f old row at → at < length row → (v : ℕ) → v ≡ f at → Filled f old (set row at v) (at + 1)
filled_next {f} {old} {row} {at} t h v e = record {
  long = length-set row at v ∙ t.long;
  new = put_next 0 f row at v h e t.new;
  rest = λ i l. get_or-set_other row at i v 0 (λ z. omega (arith, z)) ∙ t.rest i (omega arith);
}

pub filled_whole : (f : ℕ → ℕ) (old row : List ℕ) (at : ℕ) → Filled f old row at → at ≤ length old → row ≡ table at f ++ drop at old
filled_whole f old row at t h =
    ext_get_or 0 row (table at f ++ drop at old) (t.long ∙ sym (length-append (table at f) (drop at old) ∙ omega (arith, length-table at f, length-drop at old))) (λ i l. go i (ltb i at) refl)
  where
    go : (i : ℕ) → (b : Bool) → ltb i at ≡ b → get_or row i 0 ≡ get_or (table at f ++ drop at old) i 0
    go i true q =
        let l = ltb-true i at q in
        t.new i l ∙ sym (get_or-append (table at f) (drop at old) 0 i (omega (arith, length-table at f)) ∙ get_or-table at f i 0 l)
    go i false q =
        let l = ltb-false i at q in
        let e : i ≡ length (table at f) + (i - at) = omega (arith, length-table at f) in
        let m : at + (i - at) ≡ i = omega arith in
        t.rest i l ∙ sym (ap (λ (j : ℕ). get_or (table at f ++ drop at old) j 0) e ∙ get_or-append-add (table at f) (drop at old) (i - at) 0 ∙ get_or-drop at old (i - at) 0 ∙ ap (λ (j : ℕ). get_or old j 0) m)

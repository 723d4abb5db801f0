-- Definitions. Composing by what is kept of each block, whatever is kept: the six fields, what is counted from each atom, and the numbers of two atoms.
-- These are the joining rules of docs/RULES.md over numbers that nobody vouches for; `Told` (Table) says when they are those of a table.
use Rattle.std.specs.Prelude.{ℕ, zero, suc, ◌+◌, ◌*◌, ◌-◌, max, true, false, cond, eqb}
use Rattle.graph.specs.Graph.{is_even, is_at}
use Rattle.graph.specs.Assembly.{Join}
use Rattle.block.specs.declared.Indices.{Indices}
use Rattle.block.specs.declared.Vertex.{Vertex}

-- what is kept of a block
pub record Part : Type 0 where
  pub six : Indices
  pub sight : ℕ → Vertex
  pub far : ℕ → ℕ → ℕ

-- What an atom counts of the other side, o being counted from the far end of the joining bond and d leading to its near end: all is d + 1 farther,
-- so even and odd change places where d is even.
unfoldable pub even_beyond : ℕ → Vertex → ℕ
even_beyond d o = cond (is_even d) ((d + 1) * o.odds + o.odd) ((d + 1) * o.evens + o.even)

unfoldable pub odd_beyond : ℕ → Vertex → ℕ
odd_beyond d o = cond (is_even d) ((d + 1) * o.evens + o.even) ((d + 1) * o.odds + o.odd)

unfoldable pub beyond : ℕ → Vertex → Vertex
beyond d o = record {
  sum = even_beyond d o + odd_beyond d o;
  even = even_beyond d o;
  odd = odd_beyond d o;
  evens = cond (is_even d) o.odds o.evens;
  odds = cond (is_even d) o.evens o.odds;
  ones = is_at 0 d;
  twos = is_at 0 d * o.ones + is_at 1 d;
  farthest = d + 1 + o.farthest;
}

-- what is counted of both
unfoldable pub both : Vertex → Vertex → Vertex
both v w = record {
  sum = v.sum + w.sum;
  even = v.even + w.even;
  odd = v.odd + w.odd;
  evens = v.evens + w.evens;
  odds = v.odds + w.odds;
  ones = v.ones + w.ones;
  twos = v.twos + w.twos;
  farthest = max v.farthest w.farthest;
}

unfoldable pub grow : Vertex → ℕ → Vertex → Vertex
grow v d o = both v (beyond d o)

-- the distances across the joining bond, of which c is counted from one end and o from the other
unfoldable pub even_across : Vertex → Vertex → ℕ
even_across c o = c.even * o.odds + c.evens * o.odds + c.evens * o.odd + c.odd * o.evens + c.odds * o.evens + c.odds * o.even

unfoldable pub odd_across : Vertex → Vertex → ℕ
odd_across c o = c.even * o.evens + c.evens * o.evens + c.evens * o.even + c.odd * o.odds + c.odds * o.odds + c.odds * o.odd

unfoldable pub join_six : Indices → Indices → Vertex → Vertex → Indices
join_six x y c o =
    let even = x.even + y.even + even_across c o in
    let odd = x.odd + y.odd + odd_across c o in
    record {
      atoms = x.atoms + y.atoms;
      w = even + odd;
      even = even;
      odd = odd;
      polarity = x.polarity + y.polarity + (o.twos + c.ones * o.ones + c.twos);
      largest = max (max x.largest y.largest) (c.farthest + 1 + o.farthest);
    }

-- Of the placements at the indices 0 to m: the number of atom i of the one at k and atom j of the one at l, what is counted from atom i of the one at k,
-- and the six fields.
module _ (parts : ℕ → Part) (joins : ℕ → Join) where
  unfoldable pub far_in : ℕ → ℕ → ℕ → ℕ → ℕ → ℕ
  far_in zero k i l j = (parts 0).far i j
  far_in (suc m) k i l j =
      elim (eqb k (suc m)) [
        | true ↦ elim (eqb l (suc m)) [
          | true ↦ (parts (suc m)).far i j
          | false ↦ (parts (suc m)).far (joins (suc m)).own i + 1 + far_in m ((joins (suc m)).parent - 1) (joins (suc m)).site l j
        ]
        | false ↦ elim (eqb l (suc m)) [
          | true ↦ far_in m ((joins (suc m)).parent - 1) (joins (suc m)).site k i + 1 + (parts (suc m)).far (joins (suc m)).own j
          | false ↦ far_in m k i l j
        ]
      ]

  unfoldable pub sight_in : ℕ → ℕ → ℕ → Vertex
  sight_in zero k i = (parts 0).sight i
  sight_in (suc m) k i =
      elim (eqb k (suc m)) [
        | true ↦ grow ((parts (suc m)).sight i) ((parts (suc m)).far (joins (suc m)).own i) (sight_in m ((joins (suc m)).parent - 1) (joins (suc m)).site)
        | false ↦ grow (sight_in m k i) (far_in m ((joins (suc m)).parent - 1) (joins (suc m)).site k i) ((parts (suc m)).sight (joins (suc m)).own)
      ]

  unfoldable pub six_in : ℕ → Indices
  six_in zero = (parts 0).six
  six_in (suc m) = join_six (six_in m) (parts (suc m)).six (sight_in m ((joins (suc m)).parent - 1) (joins (suc m)).site) ((parts (suc m)).sight (joins (suc m)).own)

-- Laws. The definitions compute: methane is one atom. Assumes nothing.
use Rattle.std.specs.Prelude.{ℕ, List, ◌≡◌, refl}
use Rattle.graph.specs.Graph.{joins, any_joins, bonded, any_atom, reaches, first_from, distance, all_atoms, connected, degree, sum, sum_pairs, even_of, odd_of, is_at, total}
use Rattle.graph.specs.Farthest.{most, most_pairs, farthest, largest}
use Rattle.reply.specs.Read.{Read, read}
use Rattle.block.specs.Block.{bonds_of, bond_fault, bonds_reply, block_reply}
use Rattle.block.specs.Index.{indices_of, indices_reply}
use Rattle.block.specs.declared.Indices.{Indices}
use Rattle.text.specs.Text.{all_digits, is_number, value_from, number_of, until_feed, line_end, has_carriage, line_chars, next_line, later_line, starts_with, line_starts}
use Rattle.molfile.specs.Molfile.{bond_of_line, hydrogen_in, symbol_at, one_h, hydrogen_at, in_turn, line_reply, numbers_reply, bond_reply, end_line_reply, lines_reply, passing_below, is_dropped, kept_bytes}
use Rattle.molfile.specs.Examples.{methane}
use Rattle.measuring.specs.Measuring.{measure_reply}

unfoldable pub told : List ℕ → Read Indices
unfolding joins any_joins bonded any_atom reaches first_from distance all_atoms connected degree sum sum_pairs even_of odd_of is_at total most most_pairs farthest largest bonds_of bond_fault bonds_reply block_reply indices_of indices_reply all_digits is_number value_from number_of until_feed line_end has_carriage line_chars next_line later_line starts_with line_starts bond_of_line hydrogen_in symbol_at one_h hydrogen_at in_turn line_reply numbers_reply bond_reply end_line_reply lines_reply passing_below is_dropped kept_bytes measure_reply
told d = measure_reply d

pub methane_measured : told methane ≡ read (record { atoms = 1; w = 0; even = 0; odd = 0; polarity = 0; largest = 0 })
unfolding told methane
methane_measured = refl

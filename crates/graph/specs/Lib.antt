-- What a molecular graph is, what is counted on it, and the laws of both.
--
-- | notion                      | meaning                                                          | the law that matters                                     |
-- | `Graph`, `Walk`, `distance` | atoms and bonds; walks along bonds; the bonds of a shortest walk | `distance_shortest`, `distance_sym`                      |
-- | `connected`                 | every two atoms have a path, as a test that computes             | `connected_is_linked`: for walks of any length           |
-- | `Molecule`                  | a sound graph in which a walk leads from each atom to each       | `connected_molecule`                                     |
-- | `total g f`, `vertex g a f` | sums of f over the distances of all pairs, and from one atom     | `total-joined`: one law for all joining rules            |
-- | `farthest`, `largest`       | the largest distance from an atom, and of a graph                | `largest_over`, `largest_met`, `largest-joined`          |
-- | `Matching n m`              | the numbers 1 to n and 1 to m in pairs                           | `sum_same`, `pairs_same`, `most_same`                    |
-- | `joined`, `written`         | two graphs joined by a bond; an assembly written out             | `written_molecule`, `wiener-joined` .. `polarity-joined` |
-- | `atom_of`                   | a placed atom's number in the molecule written out               | `apart_later`, `apart_earlier`                           |
-- | sets of atoms               | one number of 64 bits, atom v at the digit v - 1                 | SetLaws; a search's levels are the distances: Search     |
-- | `shortest_paths g i j`      | the shortest paths from i to j as lists of atoms                 | `paths_once`: each once and nothing else; `repeats_none` |
-- | `path_count`, `paths_using` | c(i,j) and c(i,j;e)                                              | Steps: both go by the last step                          |
-- | `denominator`               | D, the least common multiple of all path counts                  | `denominator_dvd`                                        |
-- | `share g e`                 | D times the contribution of bond e                               | `shares_total`: they add up to D times W                 |
-- | `Plain n bs`                | bonds of 1 to n, none listed again                               | `over_pairs`: sums are over bonded pairs; `plain_degree` |
pub mod Graph
pub mod Farthest
pub mod Matching
pub mod Assembly
pub mod Sets
pub mod Paths
pub mod Notions
pub mod Rules
pub mod Examples
pub mod Bonds
pub mod SetLaws
pub mod Lowest
pub mod Walk
pub mod Distance
pub mod Search
pub mod Sums
pub mod BondSums
pub mod Connected
pub mod Tree
pub mod Splits
pub mod Join
pub mod Largest
pub mod Matched
pub mod Climb
pub mod Bounds
pub mod Parts
pub mod Table
pub mod Steps
pub mod Lcm
pub mod Choices
pub mod Backwards
pub mod Uses
pub mod Ends
pub mod BondPairs
pub mod Flow
pub mod Listed
pub mod Simple
pub mod PathExamples

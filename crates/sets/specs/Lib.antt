-- Sets of bonds and of atoms in trees.
--
-- | notion                | meaning                                                              | the law that matters                               |
-- | `subsets xs`          | every set of the members of a list, once each                        | `count_all`: there are 2 to the power of the members |
-- | `sets_apart r xs`      | how many sets have no two related members                            | `count_first`: without the first member, and with it |
-- | `hosoya g`            | the sets of bonds that share no atom                                 | `of_bonds`: as a weighted count                    |
-- | `merrifield_simmons g` | the sets of atoms no two of which are bonded                         | `of_atoms`: as a weighted count                    |
-- | `from_root g root`     | h, hw, i and iw of [Ilić, Ilić], from a root                         | `every_root`: the numbers over sets, from each       |
-- | `sets_reply n xs`      | both of a block that is a tree, or its refusal                       | `unique-count`                                     |
-- | `sets_from_reply n xs r`| the same, with the root that the recursion is to take                | `whichever_root`: the root makes no difference     |
-- | `taken`               | the weight of an atom once a neighbour is merged into it             | `leaf`: the weighted count stays                   |
-- | `key`                 | what tells of an atom how many bonds it has left, and of one to where | `leaf_of`, `some_leaf`                             |
pub mod Sets
pub mod Recursion
pub mod Reply
pub mod Merging
pub mod Unique
pub mod Examples

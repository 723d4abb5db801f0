-- What an assembly over a book of blocks is told.
--
-- | notion                             | meaning                                                      | the law that matters                            |
-- | `Book`, `book_of`                   | a graph under each of some numbers; that of a list of blocks | `unique-find_block`                             |
-- | `placement_at`, `join_on`, `graph_on` | a placement's fields; the join and the block of each index   | `assembled`: an assembly in graph's sense       |
-- | `Sites`, `Shelf`, `shelf_of`        | what is asked of a block, wherever it stands; that of a book | `right`: placements that are fine are joined    |
-- | `shelf_reply`, `assembly_reply`      | refusals 15 to 19, 23 and 24, placement by placement         | `whole`: what an assembly that is fine keeps to |
-- | `ruled_fault`                       | a placement's fault, earlier joins counted at both atoms     | `in_the_rules_words`: every reply is the same   |
-- | `bonds_on`                          | the bonds that 19 counts on a placed atom                    | `degree_is`: those of the molecule written out  |
pub mod Book
pub mod Placements
pub mod Work
pub mod Rules
pub mod Degrees
pub mod Sound
pub mod Unique

-- What the judge is told, and the theorems about it: THE HEADLINE.
--
-- | notion                           | meaning                                                           | the law that matters                                             |
-- | `judge_reply d`                  | the deck's refusal, or the first field that is not the molecule's | `accepted_exactly`: accepted if and only if all fields are right |
-- | `molecule_of` (deck)             | the molecule with every atom and bond written out                 | `written_molecule` (graph)                                       |
-- | `sheet_write_reply`, `sheet_out` | 20, 9 by the kind, the deck's refusal; the buffer afterwards      | `written_accepted`: what is written is accepted                  |
pub mod Judging
pub mod Headline
pub mod Theorems

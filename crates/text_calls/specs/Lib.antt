-- What the C functions for molfiles and neighbour texts answer.
--
-- | notion                          | meaning                                                             | the law that matters  |
-- | `MolfileRead`, `TextRead`       | reading: bonds in one output, the numbers of atoms and bonds beside | `beside_once` (calls) |
-- | `WholeFileRead`                 | reading as one molecule: the same, bonds as numbers of 16 bits      | `beside_once` (calls) |
-- | `MolfileWritten`, `TextWritten` | writing: the text in one output, its length beside                  | `beside_once` (calls) |
pub mod Molfiles
pub mod Texts

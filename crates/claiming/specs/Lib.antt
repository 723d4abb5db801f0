-- Claims: read, and compared with the fields of a molecule.
--
-- | notion              | meaning                                                                          | the law that matters                                                             |
-- | `claim_reply`        | the claim at a place: 35, 37, or its field and the number that its text says     | `claim_read`                                                                     |
-- | `claims_in most cs`  | all claims of some bytes, of the fields 1 to most                                | `as_listed`: one by one; `all_listed`: nothing else is read; `fuel_lasts`        |
-- | `Truth`             | the fields of a molecule, how far J may lie above its field, whether it is a tree |                                                                                  |
-- | `is_right`, `near`   | a claim says its field, J within one unit of its last digit                      | `right_says`, `says_right`                                                       |
-- | `claims_reply t cs`  | 36, the claims' refusals, 34, or the number of the first wrong claim, 0 for none | `accepted_bytes`: accepted if and only if each printout of the bytes is right    |
-- | `asks f cs`         | one of the claims is of a field                                                  | `told_alike`: what is told depends on the fields alone that are asked for        |
-- | `bytes_of ps`        | the bytes of printouts: field, length, text                                      |                                                                                  |
-- | `Claimed P cs`      | cs are the bytes of one printout or more, of which each is P                     |                                                                                  |
pub mod Claims
pub mod Asked
pub mod Printout
pub mod Work
pub mod Going
pub mod Listed
pub mod Alike
pub mod Headline

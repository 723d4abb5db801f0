-- What the one number of a C reply tells, function by function.
--
-- | notion                           | meaning                                                                   | the law that matters                              |
-- | `Bounded`, `SmallRefusal`        | every refusal of an answer has a number from 1 to 253 and a place below   | `tells`                                           |
-- | `Tells`, `Judges`, `Walks`       | 0 exactly where nothing is refused; else which refusal, and where         | `judge_tells`, `compose_tells`, `library_step_tells` |
-- | `Steps`                          | 0 where there is a record, 254 where all are done                         | `sdf_record_tells`                                |
-- | (the headline in C's number)     | 0 exactly where the sheet's fields are the molecule's; where claims say them | `zero_exactly`; `zero_claims`, `zero_block`    |
-- | (large molecules in C's number) | 0 exactly where a molecule is written out; where a matching holds       | `written_out_tells`, `matched_tells`, `zero_matched` |
-- | (there and back)                 | what the C functions write, they read                                     | `molfile_back`, `text_back`, `text_again`         |
-- | (a refusal writes nothing)       | what was lent is as it was where the reply is not 0, or a function refuses | `lent_unchanged`, `beside_unchanged`, `add_unchanged` |
pub mod Bounded
pub mod Recovered
pub mod Accepted
pub mod Molfiles
pub mod Texts
pub mod RoundTrips
pub mod Libraries
pub mod Rankings
pub mod Queues
pub mod Claims
pub mod Large
pub mod Unchanged

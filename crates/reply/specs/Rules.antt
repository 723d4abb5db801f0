-- Definitions. The number of each rule in the rules' table.
use Rattle.std.specs.Prelude.{ℕ, Option, Some, None}
use Rattle.reply.specs.declared.rule.Rule.{Rule}
use Rattle.reply.specs.declared.rule.Rule.TheVariants.{AtomCount, BondBytes, BondEnd, SelfBond, ListedBefore, SeventhBond, NoPath, Denominator, ShortOutput, Argument, RecordCut, RecordKind, PayloadLength, BlockNumber, PlacementCount, UnknownBlock, FirstJoin, JoinAtom, SeventhJoin, DeckLength, TextByte, TextEnd, NoParent, LaterParent, MolfileLine, MolfileNumber, MolfileBondEnd, QueueFull, QueueHolds, QueueLacks, SiteCount, CandidateCount, SiteAtom, NoTree, ClaimField, NoClaim, ClaimText, NoItem, TwoItems}

abbrev pub rule_number : Rule → ℕ
rule_number AtomCount = 1
rule_number BondBytes = 2
rule_number BondEnd = 3
rule_number SelfBond = 4
rule_number ListedBefore = 5
rule_number SeventhBond = 6
rule_number NoPath = 7
rule_number Denominator = 8
rule_number ShortOutput = 9
rule_number Argument = 10
rule_number RecordCut = 11
rule_number RecordKind = 12
rule_number PayloadLength = 13
rule_number BlockNumber = 14
rule_number PlacementCount = 15
rule_number UnknownBlock = 16
rule_number FirstJoin = 17
rule_number JoinAtom = 18
rule_number SeventhJoin = 19
rule_number DeckLength = 20
rule_number TextByte = 21
rule_number TextEnd = 22
rule_number NoParent = 23
rule_number LaterParent = 24
rule_number MolfileLine = 25
rule_number MolfileNumber = 26
rule_number MolfileBondEnd = 27
rule_number QueueFull = 28
rule_number QueueHolds = 29
rule_number QueueLacks = 30
rule_number SiteCount = 31
rule_number CandidateCount = 32
rule_number SiteAtom = 33
rule_number NoTree = 34
rule_number ClaimField = 35
rule_number NoClaim = 36
rule_number ClaimText = 37
rule_number NoItem = 38
rule_number TwoItems = 39

-- a number that is 0 where there is none
abbrev pub number_if : Option Rule → ℕ
number_if None = 0
number_if (Some r) = rule_number r

mod Framework
mod Memory
mod Standing
mod Parts
mod Names
mod Leaving
mod Declared
mod Blocks
mod Mains
mod Asked
mod Copies
mod Courses
mod Indexing
mod Items
mod Scattered
mod Spots
mod Sent
mod Passing
mod Calls
mod Operands
mod Doubled
mod Plain
mod Defaults
pub mod Grounded
mod Turnings
mod Aggregates
mod Repeated
mod Rounds
mod Inner
mod Expressions
mod Actuals
mod Loops
mod Suits
mod Texts
mod Statements
mod ForkLaws
pub mod ForkFuel
mod ForkThreads
mod ForkNotes
mod ForkPar
mod ForkSteps
mod ForkInside
mod ForkFrames
mod ForkLoops
mod ForkLeft
mod ForkFor
mod ForkRange
pub mod ForkDeals
mod ForkItems
mod ForkChunks
mod ForkOf
mod ForkSights
mod Alike
mod ForkApart
mod ForkFine
mod Lent
mod ForkReduce
mod ForkKept
mod FoldCalls
mod ForkSites
mod ForkWhole
mod ForkArms
mod ForkBlock
mod LeaseGeometry
mod ItemGeometry
mod LeaseOwners
pub mod LeaseRuns
mod Formals
mod Bodies
mod Main
mod Listed
pub mod ProgramStands
mod Forward
mod ForwardCode
mod ForwardValues
mod ForwardStatements
mod Heights
mod HeightsTables
mod HeightsScopes
mod HeightsValues
mod HeightsStatements
mod HeightsIdle
mod HeightsPrograms
pub mod Strings
pub mod Constructs
mod NamedCode
pub mod Counted
pub mod CodeTables
mod ForkLeaves
mod JoinLeaves
mod Reading
mod Copied
mod Aggregated
mod EvalLeaves
mod ExecLeaves
mod ForkDoes
mod FoldDoes
mod Whole
mod Example
mod Handled
mod ForkExample
mod WholeExample
mod FoldExample
pub mod WholeLaws
mod OnePlace
mod Leasing
mod LeaseFinds
mod LeasesLent
mod WholeSafe
mod AllFine
-- the worked leases
mod Computed
-- one home for each variable
mod Times
pub mod Housed
pub mod Local
pub mod ForkViews
pub mod Forks
pub mod Sited

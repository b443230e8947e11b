-- Lemmas of the tree of a pattern, and of compiling it.
pub mod EventsOnStack
pub mod TextIsWritten
pub mod TreeLawsHold
pub mod WorkedPatterns
pub mod FirstFaultIsLocated
pub mod EventsInTree
pub mod DescentFindsPlace
pub mod ByteIsLocated
pub mod FaultInPlaceOfOpen
pub mod StepsCompile
pub mod DiagnosisIsFirstFault
pub mod BlamedParts

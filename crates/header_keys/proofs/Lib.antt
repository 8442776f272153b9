pub mod KeyExamples
pub mod KeyNames

pub mod RootEdges
pub mod RootRefusals

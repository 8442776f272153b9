pub mod LevelLists

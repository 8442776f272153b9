pub mod FileEnd
pub mod Mapped
pub mod RootsPut

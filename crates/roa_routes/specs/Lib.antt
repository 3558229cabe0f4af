-- Definitions of the lines of routes, and of the texts of VRPs and routes.
pub mod Routes
pub mod Texts
